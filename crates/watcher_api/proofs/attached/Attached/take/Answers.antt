use Rattle.std.proofs.Common.{◌≡◌, ◌∙◌, List, subst, sym, ap, arith, slice_index_or}
use Rattle.std.specs.Prelude.{remove}
use Rattle.watcher_api.specs.Attachment.{Attachment}
use Rattle.watcher_api.specs.Acting.{AreInOrder, AreNumbered, IsPlaceOf}
use Rattle.watcher_api.proofs.Order.{ordered_remove, numbered_remove, absent_set, absent_left, found, left}
use Rattle.watcher_api.proofs.attached.Attached.take.Goals as goal

pub returns-in_err-place-clause-taken : goal.returns-in_err-place-clause-taken
returns-in_err-place-clause-taken g c =
    c.from_residual.ensures ∙ sym (absent_set c.args.plugin c.args.self.now c.in_err-place.ensures.place)

pub returns-in_err-place-clause-left : goal.returns-in_err-place-clause-left
returns-in_err-place-clause-left g c = sym (absent_left c.args.plugin c.args.self.now c.in_err-place.ensures.place)

pub invariant_of-self : goal.invariant_of-self
invariant_of-self g c =
    let sets = c.self.inside.sets.items in
    let i = c.in_ok-place.place in
    let place : IsPlaceOf c.args.plugin sets i = subst (λ s. IsPlaceOf c.args.plugin s i) (sym c.self.view_is) c.in_ok-place.ensures.place in (
      omega (arith, c.remove.ensures.capacity, c.self.invariant.0),
      subst AreInOrder (sym c.remove.ensures.items) (ordered_remove sets i place.within c.self.invariant.1),
      subst AreNumbered (sym c.remove.ensures.items) (numbered_remove sets i c.self.invariant.2),
    )

pub returns-clause-taken : goal.returns-clause-taken
returns-clause-taken g c =
    let now = c.args.self.now in
    let i = c.in_ok-place.place in
    let order = subst AreInOrder c.self.view_is c.self.invariant.1 in
    let is : c.remove.result ≡ slice_index_or now i c.remove.result =
    c.remove.ensures.value ∙ ap (λ (s : List Attachment). slice_index_or s i c.remove.result) c.self.view_is in
    sym (found c.args.plugin now i c.remove.result c.in_ok-place.ensures.place order is)

pub returns-clause-left : goal.returns-clause-left
returns-clause-left g c =
    let now = c.args.self.now in
    let i = c.in_ok-place.place in
    let order = subst AreInOrder c.self.view_is c.self.invariant.1 in
    c.remove.ensures.items ∙ (ap (λ (s : List Attachment). remove s i) c.self.view_is
    ∙ sym (left c.args.plugin now i c.remove.result c.in_ok-place.ensures.place order))
