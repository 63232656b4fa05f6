use Rattle.std.proofs.Common.{ap, ◌∙◌, sym, slice_get}
use Rattle.std.proofs.lemmas.Option.{same_Some}
use Rattle.baton_tests.proofs.FreePasses.{new_free}
use Rattle.baton_tests.proofs.parcel.add_by_two.Goals as goal

pub join-first-requires-after_bounds : goal.join-first-requires-after_bounds
join-first-requires-after_bounds g c κs within =
    let new = c.in_ok-gate.ensures.passes in
    (new_free _ _ 0 _ _ _ (new 0 _ (ap (λ l. slice_get l 0) c.both_of-first.ensures)), new_free _ _ 1 _ _ _ (new 1 _ (ap (λ l. slice_get l 1) c.both_of-first.ensures)))

pub returns : goal.returns
returns g c =
    let new = c.in_ok-gate.ensures.passes 0 _ (ap (λ l. slice_get l 0) c.both_of-first.ensures) in
    same_Some c.take.result.value.number c.args.parcel.value.number
    (sym c.take.ensures.frame ∙ ap (λ v. v.frame) c.join.ensures.pass.0 ∙ c.join-first.ensures.first.1 ∙ new.frame_is)
