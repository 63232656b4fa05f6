use Rattle.std.proofs.Common.{◌≡◌, ◌+◌, List, [], ◌∷◌, ◌++◌, take, get_or, ℕ, sym, subst}
use Rattle.std.proofs.lemmas.List.{take_more}
use Rattle.code_listing.specs.Listings.{Lists, no_list}
use Rattle.code_listing.proofs.Extending.{list_next}
use Rattle.code_listing.proofs.listings.listing.Goals as goal

pub loop-base-init : goal.loop-base-init
loop-base-init c = subst (λ (t : List ℕ). Lists c.args.what c.args.image.now [] t) (sym c.new-text.ensures.items) no_list

pub loop-base-preserved : goal.loop-base-preserved
loop-base-preserved c =
    let items = c.deref-base-items.result.now in
    let i = c.loop-base.base-index in
    let base = get_or items i 0 in
    let more : take (i + 1) items ≡ take i items ++ base ∷ [] = take_more items i 0 c.loop-base-test.true in
    list_next c.args.what c.args.image.now (take i items) (take (i + 1) items) base c.round_up.result c.loop-base.text.items c.put_from.new.text.items
    c.loop-base.invariant c.round_up.ensures.up c.in_ok-put_from.ensures.text more
