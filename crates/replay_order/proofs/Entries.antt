-- Entries of a journal, one after the other.
use Rattle.std.proofs.Common.{◌≡◌, ◌==◌, ◌+◌, ◌<◌, ◌∷◌, [], ◌++◌, ◌∙◌, ℕ, zero, suc, true, false, List, refl, sym, ap, subst}
use Rattle.std.proofs.Common.{arith}
use Rattle.std.proofs.Common.{Option, Some, None, inl, inr, length, nat_lt, take}
use Rattle.std.specs.Prelude.{slice_get, slice_index_or, option_map}
use Rattle.std.specs.Option.{option_or}
use Rattle.std.proofs.lemmas.Bool.{cases_Bool, false≢true, ltb-true, ltb-false}
use Rattle.flat_model.specs.declared.plugins.SetSpec.{SetSpec}
use Rattle.flat_model.specs.declared.journals.Entry.{Entry}
use Rattle.flat_model.specs.declared.journals.Entry.TheVariants.{Turn, Order, Back, Leave, Done}
use Rattle.flat_model.specs.declared.journals.Item.{Item}
use Rattle.flat_model.specs.declared.journals.Item.TheVariants.{Step, Ordered}
use Rattle.flat_model.specs.declared.journals.Order.TheVariants.{Install}
use Rattle.flat_model.specs.declared.journals.Origin.TheVariants.{Start}
use Rattle.flat_model.specs.Log.{log, log_from, steps, with_entry, turning, are_one, HasSteps, IsJoinedAfter}
use Rattle.run_rules.specs.Guest.{Run, run_of}
use Rattle.run_rules.specs.Due.{turn_length, wanted, missing_install, start_orders, line_item, owed_line}
use Rattle.run_rules.specs.Legal.{Legal, Rule, may_step}
use Rattle.run_rules.proofs.Openings.{keeps_its_opening}
use Rattle.kept_order.proofs.Openings.{nothing_is_wanted}
use Rattle.replay_order.proofs.Journaled.{same_turn, journals_judge_logs}
use Rattle.replay_order.proofs.Journaled.{whole_journals_have_whole_logs as kept_whole}
use Rattle.replay_order.specs.Entries.{TakesOneMore, TurnsBeginAnew, BrokenRulesBreakJournals, BrokenStepsBreakTurns, WantsNothingMore}
use Rattle.replay_order.specs.Entries.{WholeJournalsHaveWholeLogs}

-- One entry more.

one_more : (past : List Item) (es : List Entry) (e : Entry) (k : ℕ) → k < length es → slice_index_or es k e ≡ e
    → log_from past (take (suc k) es) ≡ with_entry e (log_from past (take k es))
one_more past [] e k below at = absurd (omega (arith, below))
one_more past (x ∷ es) e zero below at = ap (λ (y : Entry). with_entry y past) at
one_more past (x ∷ es) e (suc k) below at = one_more (with_entry x past) es e k (omega (arith, below)) at

pub takes_one_more : TakesOneMore
takes_one_more es e k below at =
    let next : k + 1 ≡ suc k = omega arith in
    ap (λ (n : ℕ). log (take n es)) next ∙ one_more [] es e k below at

-- Turns that were joined.

-- no hart but that of the last entry's Turn made a step right before
abbrev Fresh : Option ℕ → List Item → Type 0
Fresh last past = (h : ℕ) → are_one last (Some h) ≡ false → turn_length h past ≡ 0

others_turn : (h hart n : ℕ) (past : List Item) → 0 < n → (hart == h) ≡ false → turn_length h (steps hart n past) ≡ 0
unfolding turn_length
others_turn h hart zero past some other = absurd (omega (arith, some))
others_turn h hart (suc n) past some other = rw other refl

next_fresh : (e : Entry) (past : List Item) → HasSteps e → Fresh (turning e) (with_entry e past)
unfolding turn_length
next_fresh (Turn hart n) past some = λ h other. others_turn h hart n past some other
next_fresh (Order origin order) past some = λ h other. refl
next_fresh (Back hart plugin) past some = λ h other. refl
next_fresh (Leave hart) past some = λ h other. refl
next_fresh (Done party plugin) past some = λ h other. refl

begins_anew : (es : List Entry) (last : Option ℕ) (past : List Item) (e : Entry) (h n k : ℕ) → IsJoinedAfter last es → Fresh last past
    → k < length es → slice_index_or es k e ≡ e → e ≡ Turn h n → (turn_length h (log_from past (take k es)) ≡ 0) × (0 < n)
begins_anew [] last past e h n k joined fresh below at is = absurd (omega (arith, below))
begins_anew (x ∷ es) last past e h n zero joined fresh below at is =
    (fresh h (ap (λ (y : Entry). are_one last (turning y)) (sym (at ∙ is)) ∙ joined.1), subst HasSteps (at ∙ is) joined.0)
begins_anew (x ∷ es) last past e h n (suc k) joined fresh below at is =
    begins_anew es (turning x) (with_entry x past) e h n k joined.2 (next_fresh x past joined.0) (omega (arith, below)) at is

none_yet : Fresh None []
unfolding turn_length
none_yet h other = refl

pub turns_begin_anew : TurnsBeginAnew
turns_begin_anew es e h n k past joined below at turn is =
    let anew = begins_anew es None [] e h n k joined none_yet below at turn in
    (sym (same_turn h past) ∙ ap (turn_length h) is ∙ anew.0, anew.1)

-- Rules that are broken.

pub broken_rules_break_journals : BrokenRulesBreakJournals
unfolding Legal
broken_rules_break_journals m mode plan x now past is broken legal =
    broken (journals_judge_logs m mode plan x now (subst (Rule (run_of m mode plan) x) (sym is) legal.1))

pub step_before : (run : Run) (h k n : ℕ) (past : List Item) → k < n → Legal run (steps h n past) → may_step run h (steps h k past) ≡ true
unfolding Legal
step_before run h k zero past below legal = absurd (omega (arith, below))
step_before run h k (suc n) past below legal =
    elim (cases_Bool (nat_lt k n)) [
      | inl less ↦ step_before run h k n past (ltb-true k n less) legal.0
      | inr not_less ↦
          let last : n ≡ k = let high = ltb-false k n not_less in omega (arith, below, high) in
          ap (λ (j : ℕ). may_step run h (steps h j past)) (sym last) ∙ legal.1
    ]

pub broken_steps_break_turns : BrokenStepsBreakTurns
broken_steps_break_turns m mode plan h k n now past below is broken legal =
    let run = run_of m mode plan in
    let kept : may_step run h now ≡ true =
    journals_judge_logs m mode plan (Step h) now (ap (may_step run h) is ∙ step_before run h k n past below legal) in
    false≢true (sym broken ∙ kept)

-- Nothing more that the plan wants.

first_none : {A : Type 0} (a b : Option A) → option_or a b ≡ None → a ≡ None
first_none None b is = refl
first_none (Some x) b is = absurd cc

pub map_none : {A B : Type 0} (f : A → B) (a : Option A) → option_map f a ≡ None → a ≡ None
map_none f None is = refl
map_none f (Some x) is = absurd cc

none_missing : (run : Run) (past : List Item) → wanted run past ≡ None → missing_install run past ≡ None
unfolding wanted
none_missing run past is = first_none (missing_install run past) (option_map (line_item past) (owed_line run past)) is

pub wants_nothing_more : WantsNothingMore
wants_nothing_more run more past plain is legal =
    let still = (keeps_its_opening run more past legal (none_missing run past is)).0 in
    nothing_is_wanted run (more ++ past) plain
    (map_none (λ (spec : SetSpec). Ordered Start (Install spec)) (slice_get run.plan.installs (start_orders (more ++ past))) still)

pub whole_journals_have_whole_logs : WholeJournalsHaveWholeLogs
whole_journals_have_whole_logs m mode plan past legal whole = kept_whole m mode plan past legal whole
