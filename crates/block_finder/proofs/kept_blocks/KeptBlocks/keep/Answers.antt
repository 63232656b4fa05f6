use Rattle.std.proofs.Common.{◌≡◌, ◌<◌, ◌∷◌, ◌++◌, [], length, true, subst, sym, arith}
use Rattle.block_finder.specs.Caches.{AreOf, stands_at}
use Rattle.block_finder.proofs.Caches.{right_set, right_push, stands_set, stands_push}
use Rattle.block_finder.proofs.kept_blocks.KeptBlocks.keep.Goals as goal

pub returns-then-at-len-clause-right : goal.returns-then-at-len-clause-right
returns-then-at-len-clause-right c =
    let blocks = c.args.self.now.blocks.items in
    right_set c.args.image.now c.args.pc c.from-at.result blocks c.in_ok-block.block c.in_ok-block.ensures.block c.requires.right

pub returns-then-at-len-clause-stands : goal.returns-then-at-len-clause-stands
returns-then-at-len-clause-stands c =
    let blocks = c.args.self.now.blocks.items in
    let below : c.from-at.result < length blocks = omega arith in
    rw (← c.from-at.ensures)
    (stands_set c.args.image.now c.args.pc c.from-at.result blocks c.in_ok-block.block below c.in_ok-block.ensures.block)

pub returns-in_ok-push-2-clause-right : goal.returns-in_ok-push-2-clause-right
returns-in_ok-push-2-clause-right c =
    let blocks = c.args.self.now.blocks.items in
    let grown : c.push-else-at-len.new.self.items ≡ blocks ++ c.in_ok-block.block ∷ [] = c.in_ok-push-2.ensures.items in
    subst (λ now. AreOf c.args.image.now now) (sym grown)
    (right_push c.args.image.now c.args.pc blocks c.in_ok-block.block c.in_ok-block.ensures.block c.requires.right)

pub returns-in_ok-push-2-clause-stands : goal.returns-in_ok-push-2-clause-stands
returns-in_ok-push-2-clause-stands c =
    let blocks = c.args.self.now.blocks.items in
    let grown : c.push-else-at-len.new.self.items ≡ blocks ++ c.in_ok-block.block ∷ [] = c.in_ok-push-2.ensures.items in
    let end : c.free_place-place.result ≡ length blocks = omega arith in
    subst (λ now. stands_at c.args.pc c.free_place-place.result now ≡ true) (sym grown)
    (stands_push c.args.image.now c.args.pc c.free_place-place.result blocks c.in_ok-block.block end c.in_ok-block.ensures.block)
