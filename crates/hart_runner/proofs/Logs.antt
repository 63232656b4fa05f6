-- Logs that go on: what their journal and the number of steps become.
use Rattle.std.proofs.Common.{◌≡◌, ◌≤◌, ◌++◌, ◌∷◌, [], List, length, refl, ap, ◌∙◌, arith}
use Rattle.std.specs.Prelude.{All}
use Rattle.std.proofs.lemmas.List.Elements.{All-head, All-tail}
use Rattle.flat_model.specs.declared.journals.Item.{Item}
use Rattle.flat_model.specs.declared.journals.Item.TheVariants.{Step, Ordered, GaveBack, Left, Told, Got, Took}
use Rattle.flat_model.specs.Log.{journaled, total_steps}
use Rattle.baton_gate.specs.Logs.{GoesOn}

longer : (more past : List Item) → length (journaled past) ≤ length (journaled (more ++ past))
longer [] past = omega arith
longer (Step hart ∷ more) past = omega (arith, longer more past)
longer (Ordered origin order ∷ more) past = omega (arith, longer more past)
longer (GaveBack hart plugin ∷ more) past = omega (arith, longer more past)
longer (Left hart ∷ more) past = omega (arith, longer more past)
longer (Told who plugin ∷ more) past = omega (arith, longer more past)
longer (Got hart plugin ∷ more) past = longer more past
longer (Took who plugin ∷ more) past = longer more past

pub never_less : (P : Item → Type 0) (seen now : List Item) → GoesOn P seen now → length (journaled seen) ≤ length (journaled now)
never_less P seen now goes = omega (arith, longer goes.more seen, ap (λ (past : List Item). length (journaled past)) goes.begins)

abbrev pub IsNoStep : Item → Type 0
IsNoStep (Step hart) = ⊥
IsNoStep (Ordered origin order) = Unit {0}
IsNoStep (GaveBack hart plugin) = Unit {0}
IsNoStep (Left hart) = Unit {0}
IsNoStep (Told who plugin) = Unit {0}
IsNoStep (Got hart plugin) = Unit {0}
IsNoStep (Took who plugin) = Unit {0}

one_total : (i : Item) (past : List Item) → IsNoStep i → total_steps (i ∷ past) ≡ total_steps past
one_total (Step hart) past is = absurd is
one_total (Ordered origin order) past is = refl
one_total (GaveBack hart plugin) past is = refl
one_total (Left hart) past is = refl
one_total (Told who plugin) past is = refl
one_total (Got hart plugin) past is = refl
one_total (Took who plugin) past is = refl

more_total : (P : Item → Type 0) → ((i : Item) → P i → IsNoStep i) → (more past : List Item) → All P more
    → total_steps (more ++ past) ≡ total_steps past
more_total P still [] past all = refl
more_total P still (i ∷ more) past all =
    one_total i (more ++ past) (still i (All-head P i more all)) ∙ more_total P still more past (All-tail P i more all)

pub same_total : (P : Item → Type 0) → ((i : Item) → P i → IsNoStep i) → (seen now : List Item) → GoesOn P seen now
    → total_steps now ≡ total_steps seen
same_total P still seen now goes = ap total_steps goes.begins ∙ more_total P still goes.more seen goes.later
