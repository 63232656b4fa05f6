-- A log before others added to it.
use Rattle.std.proofs.Common.{◌≡◌, ◌<◌, ◌≤◌, ◌∷◌, [], ◌++◌, ◌∙◌, ℕ, Bool, true, false, List, refl, sym, ap, inl, inr}
use Rattle.std.specs.Prelude.{if◌then◌else◌}
use Rattle.std.proofs.lemmas.Bool.{cases_Bool, false≢true}
use Rattle.flat_model.specs.declared.journals.Item.{Item}
use Rattle.flat_model.specs.declared.journals.Item.TheVariants.{Step, Ordered, GaveBack, Left, Told, Got, Took}
use Rattle.run_rules.specs.Guest.{Run, plugins}
use Rattle.run_rules.specs.Heard.{is_live}
use Rattle.run_rules.specs.Laws.{AreOfOthers, KeepsSet}
use Rattle.run_rules.specs.Legal.{Legal}
use Rattle.run_rules.specs.Places.{Waiting, IsStateLog, place_of, is_with_hart, registers}
use Rattle.run_rules.proofs.Keeping.{others_leave_sets_alone}
use Rattle.kept_order.proofs.Asked.{state_at, registered_by, item_live}

pub legal_before : (run : Run) (more past : List Item) → Legal run (more ++ past) → Legal run past
unfolding Legal
legal_before run [] past legal = legal
legal_before run (x ∷ more) past legal = legal_before run more past legal.0

pub state_before : (run : Run) (more past : List Item) → IsStateLog run (more ++ past) → IsStateLog run past
unfolding IsStateLog
state_before run [] past state = state
state_before run (x ∷ more) past state = state_before run more past state.0

-- an item that leaves a set with a hart didn't register it
not_registered : (run : Run) (plugin h : ℕ) (x : Item) (past : List Item)
    → is_with_hart (place_of run plugin h (x ∷ past)) ≡ true → registered_by (plugins run past) x plugin ≡ false
unfolding place_of
not_registered run plugin h (Step hart) past with = refl
not_registered run plugin h (Ordered origin order) past with =
    elim (cases_Bool (registers (plugins run past) order plugin)) [
      | inr off ↦ off
      | inl at ↦ absurd (false≢true
          (sym (ap (λ (b : Bool). is_with_hart (if b then Waiting else place_of run plugin h past)) at) ∙ with))
    ]
not_registered run plugin h (GaveBack hart number) past with = refl
not_registered run plugin h (Left hart) past with = refl
not_registered run plugin h (Told who number) past with = refl
not_registered run plugin h (Got hart number) past with = refl
not_registered run plugin h (Took who number) past with = refl

-- so a plug-in that has a set with the hart, and is Live once others have held the state, was Live before
pub live_before : (run : Run) (plugin h : ℕ) (more past : List Item) → 1 ≤ plugin → h < run.harts → AreOfOthers h more
    → Legal run (more ++ past) → IsStateLog run (more ++ past) → is_with_hart (place_of run plugin h past) ≡ true
    → is_live (state_at run plugin (more ++ past)) ≡ true → is_live (state_at run plugin past) ≡ true
unfolding Legal IsStateLog
live_before run plugin h [] past one low others legal state with live = live
live_before run plugin h (x ∷ more) past one low others legal state with live =
    let log = more ++ past in
    let keeps : KeepsSet run plugin h past (x ∷ log) = others_leave_sets_alone run plugin h (x ∷ more) past one low others legal state in
    let off = not_registered run plugin h x log (keeps.there ∙ with) in
    live_before run plugin h more past one low others.1 legal.0 state.0 with (item_live run plugin x log one legal.1 off live)
