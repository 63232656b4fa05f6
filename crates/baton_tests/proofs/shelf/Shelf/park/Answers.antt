use Rattle.std.proofs.Common.{ap, sym, subst, List, reverse, ◌∙◌, ◌++◌, ◌∷◌, []}
use Rattle.std.proofs.lemmas.List.{reverse-append}
use Rattle.baton_tests.specs.declared.entries.Entry.{Entry}
use Rattle.baton_tests.specs.declared.entries.Entry.TheVariants.{Parked as Put}
use Rattle.baton_tests.specs.declared.shelf.Parked.{Parked}
use Rattle.baton_tests.specs.Boxes.{HasHeard}
use Rattle.baton_tests.proofs.ShelfLemmas.{keeps_park}
use Rattle.baton_tests.proofs.shelf.Shelf.park.Goals as goal

pub invariant_of-self-2 : goal.invariant_of-self-2
invariant_of-self-2 g c =
    let stands = g.W.Listener.stands in
    let before = c.self.inside.entries.items in
    let b : Parked g.row.W.Denot = record { hart = c.args.hart; listener = c.args.listener } in
    keeps_park stands c.self.inside.boxes.items _ (reverse before) _ b
    (ap reverse (c.push_reserved.ensures.items ∙ ap (λ l. l ++ Put c.args.hart ∷ []) c.reserve-2.ensures.items) ∙ reverse-append before (Put c.args.hart ∷ []))
    (c.push_reserved-2.ensures.items ∙ ap (λ l. l ++ b ∷ []) c.reserve.ensures.items)
    (subst (λ (l : List Entry). HasHeard stands l b) (sym (ap (λ v. v.log) c.self.view_is)) c.requires.heard) c.self.invariant
