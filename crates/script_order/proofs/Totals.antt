-- What a journal with its Turns joined tells of its log.
use Rattle.std.proofs.Common.{◌≡◌, ◌==◌, ◌+◌, ◌-◌, ◌<◌, ◌≤◌, ◌∷◌, [], ◌∙◌, ℕ, zero, suc, Bool, true, false, List, Option, Some, None}
use Rattle.std.proofs.Common.{refl, sym, ap, subst, arith, inl, inr, length}
use Rattle.std.specs.Prelude.{if◌then◌else◌, slice_get}
use Rattle.std.proofs.lemmas.Bool.{cases_Bool}
use Rattle.flat_model.specs.declared.journals.Entry.{Entry}
use Rattle.flat_model.specs.declared.journals.Entry.TheVariants.{Turn, Order, Back, Leave, Done}
use Rattle.flat_model.specs.declared.journals.Item.{Item}
use Rattle.flat_model.specs.declared.journals.Item.TheVariants.{Step, Ordered, GaveBack, Left, Told, Got, Took}
use Rattle.flat_model.specs.Log.{log_from, steps, with_entry, journaled, total_steps, turning, are_one, HasSteps, IsJoinedAfter}
use Rattle.run_rules.specs.Due.{turn_length}
use Rattle.run_rules.proofs.Fitting.{number_is}
use Rattle.run_rules.proofs.Turns.{same}
use Rattle.script_order.specs.Totals.{turn_steps, JournalsTellTotals}

pub same_total : (past : List Item) → total_steps (journaled past) ≡ total_steps past
same_total [] = refl
same_total (Step hart ∷ past) = ap (λ (n : ℕ). n + 1) (same_total past)
same_total (Ordered origin order ∷ past) = same_total past
same_total (GaveBack hart number ∷ past) = same_total past
same_total (Left hart ∷ past) = same_total past
same_total (Told who number ∷ past) = same_total past
same_total (Got hart number ∷ past) = same_total past
same_total (Took who number ∷ past) = same_total past

same_turn : (h : ℕ) (past : List Item) → turn_length h (journaled past) ≡ turn_length h past
unfolding turn_length
same_turn h [] = refl
same_turn h (Step hart ∷ past) = ap (λ (n : ℕ). if hart == h then n + 1 else 0) (same_turn h past)
same_turn h (Ordered origin order ∷ past) = refl
same_turn h (GaveBack hart number ∷ past) = refl
same_turn h (Left hart ∷ past) = refl
same_turn h (Told who number ∷ past) = refl
same_turn h (Got hart number ∷ past) = same_turn h past
same_turn h (Took who number ∷ past) = same_turn h past

-- no hart but that of the last entry's Turn made a step right before
abbrev Fresh : Option ℕ → List Item → Type 0
Fresh last past = (h : ℕ) → are_one last (Some h) ≡ false → turn_length h past ≡ 0

others_turn : (h hart n : ℕ) (past : List Item) → 0 < n → (hart == h) ≡ false → turn_length h (steps hart n past) ≡ 0
unfolding turn_length
others_turn h hart zero past some other = absurd (omega (arith, some))
others_turn h hart (suc n) past some other = rw other refl

own_turn : (h n : ℕ) (past : List Item) → turn_length h past ≡ 0 → turn_length h (steps h n past) ≡ n
unfolding turn_length
own_turn h zero past none = none
own_turn h (suc n) past none = rw (same h) (omega (arith, own_turn h n past none))

next_fresh : (e : Entry) (past : List Item) → HasSteps e → Fresh (turning e) (with_entry e past)
unfolding turn_length
next_fresh (Turn hart n) past some = λ h other. others_turn h hart n past some other
next_fresh (Order origin order) past some = λ h other. refl
next_fresh (Back hart plugin) past some = λ h other. refl
next_fresh (Leave hart) past some = λ h other. refl
next_fresh (Done party plugin) past some = λ h other. refl

-- one entry, by which a Turn ends
one_turn : (e : Entry) (last : Option ℕ) (past : List Item) (h : ℕ) → HasSteps e → are_one last (turning e) ≡ false → Fresh last past
    → 0 < turn_length h (with_entry e past) → turn_steps (Some e) ≡ turn_length h (with_entry e past)
unfolding turn_length
one_turn (Turn hart n) last past h some apart fresh turns =
    elim (cases_Bool (hart == h)) [
      | inr other ↦ absurd (omega (arith, turns, others_turn h hart n past some other))
      | inl own ↦
          let e : hart ≡ h = number_is hart h own in
          let none : turn_length h past ≡ 0 = fresh h (subst (λ (k : ℕ). are_one last (Some k) ≡ false) e apart) in
          sym (ap (λ (k : ℕ). turn_length h (steps k n past)) e ∙ own_turn h n past none)
    ]
one_turn (Order origin order) last past h some apart fresh turns = absurd (omega (arith, turns))
one_turn (Back hart plugin) last past h some apart fresh turns = absurd (omega (arith, turns))
one_turn (Leave hart) last past h some apart fresh turns = absurd (omega (arith, turns))
one_turn (Done party plugin) last past h some apart fresh turns = absurd (omega (arith, turns))

last_turns : (es : List Entry) (e : Entry) (last : Option ℕ) (past : List Item) (h : ℕ) → IsJoinedAfter last (e ∷ es) → Fresh last past
    → 0 < turn_length h (log_from past (e ∷ es))
    → turn_steps (slice_get (e ∷ es) (length (e ∷ es) - 1)) ≡ turn_length h (log_from past (e ∷ es))
last_turns [] e last past h joined fresh turns =
    let place : length (e ∷ []) - 1 ≡ 0 = omega arith in
    ap (λ (k : ℕ). turn_steps (slice_get (e ∷ []) k)) place ∙ one_turn e last past h joined.0 joined.1 fresh turns
last_turns (x ∷ es) e last past h joined fresh turns =
    let place : length (e ∷ x ∷ es) - 1 ≡ suc (length (x ∷ es) - 1) = omega arith in
    ap (λ (k : ℕ). turn_steps (slice_get (e ∷ x ∷ es) k)) place
    ∙ last_turns es x (turning e) (with_entry e past) h joined.2 (next_fresh e past joined.0) turns

none_yet : Fresh None []
unfolding turn_length
none_yet h other = refl

ends_in : (es : List Entry) (h : ℕ) → IsJoinedAfter None es → 0 < turn_length h (log_from [] es)
    → turn_steps (slice_get es (length es - 1)) ≡ turn_length h (log_from [] es)
unfolding turn_length
ends_in [] h joined turns = absurd (omega (arith, turns))
ends_in (e ∷ es) h joined turns = last_turns es e None [] h joined none_yet turns

pub journals_tell_totals : JournalsTellTotals
journals_tell_totals es past joined is = record {
  total = ap total_steps is ∙ same_total past;
  turn = λ h turns.
      let there : turn_length h (log_from [] es) ≡ turn_length h past = ap (turn_length h) is ∙ same_turn h past in
      ends_in es h joined (omega (arith, turns, there)) ∙ there;
}
