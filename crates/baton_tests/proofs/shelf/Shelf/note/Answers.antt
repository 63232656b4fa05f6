use Rattle.std.proofs.Common.{ap, sym, subst, reverse, ◌∙◌, ◌∷◌, []}
use Rattle.std.proofs.lemmas.List.{reverse-append}
use Rattle.baton_tests.specs.declared.entries.Entry.TheVariants.{Step}
use Rattle.baton_tests.specs.Shelf.{HasBox}
use Rattle.baton_tests.proofs.ShelfLemmas.{keeps_note}
use Rattle.baton_tests.proofs.shelf.Shelf.note.Goals as goal

pub invariant_of-self-2 : goal.invariant_of-self-2
invariant_of-self-2 g c =
    let before = c.self.inside.entries.items in
    keeps_note g.W.Listener.stands _ _ _ c.args.hart c.args.number
    (ap reverse c.in_ok-push.ensures.items ∙ reverse-append before (Step c.args.hart c.args.number ∷ []))
    (subst (HasBox c.args.hart) (sym (ap (λ v. v.log) c.self.view_is)) c.requires) c.self.invariant
