use Rattle.std.proofs.Common.{◌≡◌, ◌<◌, ◌++◌, ◌∷◌, [], length, true, refl, subst, sym, ap, arith}
use Rattle.instr_lists.specs.Lists.{Listed}
use Rattle.instr_lists.specs.declared.kept_lists.KeptList.{KeptList}
use Rattle.instr_lists.specs.Caches.{stands_at}
use Rattle.instr_lists.proofs.Kept.{stands_set, stands_push}
use Rattle.instr_lists.proofs.kept_lists.KeptLists.keep.Goals as goal

pub returns-then-at-len-clause-stands : goal.returns-then-at-len-clause-stands
returns-then-at-len-clause-stands c =
    let lists = c.args.self.now.lists.items in
    let kept : KeptList = record { generation = c.args.generation; list = c.in_ok-list.list } in
    let below : c.from-at.result < length lists = omega arith in
    rw (← c.from-at.ensures)
    (stands_set c.args.generation c.args.block.now.pc c.from-at.result lists kept below refl (ap (λ (l : Listed). l.block.pc) c.in_ok-list.ensures.built))

pub returns-in_ok-push-2-clause-stands : goal.returns-in_ok-push-2-clause-stands
returns-in_ok-push-2-clause-stands c =
    let lists = c.args.self.now.lists.items in
    let kept : KeptList = record { generation = c.args.generation; list = c.in_ok-list.list } in
    let grown : c.push-else-at-len.new.self.items ≡ lists ++ kept ∷ [] = c.in_ok-push-2.ensures.items in
    let end : c.free_place-place.result ≡ length lists = omega arith in
    subst (λ now. stands_at c.args.generation c.args.block.now.pc c.free_place-place.result now ≡ true) (sym grown)
    (stands_push c.args.generation c.args.block.now.pc c.free_place-place.result lists kept end refl
    (ap (λ (l : Listed). l.block.pc) c.in_ok-list.ensures.built))
