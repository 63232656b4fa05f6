-- Which line is judged first.
use Rattle.std.proofs.Common.{◌≡◌, ◌==◌, ◌+◌, ◌-◌, ◌<◌, ◌≤◌, ◌∷◌, [], ◌∙◌, ℕ, zero, suc, Bool, true, false, List, Option, Some, None}
use Rattle.std.proofs.Common.{refl, sym, ap, subst, arith, nat_le, inl, inr}
use Rattle.std.specs.Prelude.{if◌then◌else◌, slice_get, option_map}
use Rattle.std.specs.List.{count_by}
use Rattle.std.specs.List.Sorted.{IsNonDecreasingBy}
use Rattle.std.specs.Option.{option_or}
use Rattle.std.specs.Cmp.Derive.{both_true}
use Rattle.std.proofs.lemmas.Bool.{cases_Bool, lt-ltb, ltb-true, ltb-false, le-leb, leb-true, leb-false, false≢true}
use Rattle.flat_model.specs.declared.journals.Item.{Item}
use Rattle.flat_model.specs.declared.journals.Item.TheVariants.{Step, Ordered, GaveBack, Left, Told, Got, Took}
use Rattle.flat_model.specs.declared.journals.Order.TheVariants.{Install}
use Rattle.flat_model.specs.declared.journals.Origin.TheVariants.{Start, Script, Asked, Control}
use Rattle.flat_model.specs.declared.journals.Timed.{Timed}
use Rattle.flat_model.specs.declared.limits.TheConstants.{NO_PARTY}
use Rattle.flat_model.specs.Log.{steps, total_steps}
use Rattle.flat_model.specs.Registry.{Plugins}
use Rattle.run_rules.specs.Guest.{Run, plugins}
use Rattle.run_rules.specs.Due.{must_stand, owed_line, line_item, come, next_line, line_party, turn_length, is_turning}
use Rattle.run_rules.specs.Due.{allowed, start_orders, missing_install, wanted}
use Rattle.run_rules.proofs.Fitting.{number_is}
use Rattle.run_rules.proofs.Turns.{plugins_keep, turn_grows}
use Rattle.script_order.specs.Judging.{IsLine, ComeBefore, IsJudging, NextIsByTurn, JudgingBegins, AreStarts, JudgingOpens}
use Rattle.script_order.proofs.Lines.{line, earlier, counts_come, come_count, none_found}

-- Behind a Turn.

turn_within : (h : ℕ) (past : List Item) → turn_length h past ≤ total_steps past
unfolding turn_length
turn_within h [] = omega arith
turn_within h (Step hart ∷ past) =
    elim (cases_Bool (hart == h)) [
      | inl is ↦ rw is (omega (arith, turn_within h past))
      | inr off ↦ rw off (omega arith)
    ]
turn_within h (Ordered origin order ∷ past) = omega arith
turn_within h (GaveBack hart number ∷ past) = omega arith
turn_within h (Left hart ∷ past) = omega arith
turn_within h (Told party number ∷ past) = omega arith
turn_within h (Got hart number ∷ past) = turn_within h past
turn_within h (Took party number ∷ past) = turn_within h past

-- the lines that had come when the Turn began, after k steps
came : (run : Run) (h k : ℕ) (past : List Item) → 0 < turn_length h past → k + turn_length h past ≡ total_steps past
    → next_line run past ≡ count_by (λ t. nat_le t.when k) run.plan.script
unfolding turn_length next_line
came run h k [] some is = absurd (omega (arith, some))
came run h k (Step hart ∷ past) some is =
    elim (cases_Bool (hart == h)) [
      | inr off ↦ absurd (omega (arith, some, ap (λ (b : Bool). if b then turn_length h past + 1 else 0) off))
      | inl own ↦
          let e : hart ≡ h = number_is hart h own in
          let long : (if hart == h then turn_length h past + 1 else 0) ≡ turn_length h past + 1 =
          ap (λ (b : Bool). if b then turn_length h past + 1 else 0) own in
          ap (λ (n : ℕ). if is_turning n past then next_line run past else come run past) e
          ∙ elim (cases_Bool (is_turning h past)) [
            | inl going ↦
                ap (λ (b : Bool). if b then next_line run past else come run past) going
                ∙ came run h k past (ltb-true 0 (turn_length h past) going) (omega (arith, is, long))
            | inr first ↦
                let none : turn_length h past ≤ 0 = ltb-false 0 (turn_length h past) first in
                ap (λ (b : Bool). if b then next_line run past else come run past) first
                ∙ ap (λ (n : ℕ). count_by (λ t. nat_le t.when n) run.plan.script) (omega (arith, is, long, none))
          ]
    ]
came run h k (Ordered origin order ∷ past) some is = absurd (omega (arith, some))
came run h k (GaveBack hart number ∷ past) some is = absurd (omega (arith, some))
came run h k (Left hart ∷ past) some is = absurd (omega (arith, some))
came run h k (Told party number ∷ past) some is = absurd (omega (arith, some))
came run h k (Got hart number ∷ past) some is = came run h k past some is
came run h k (Took party number ∷ past) some is = came run h k past some is

pub next_is_by_turn : NextIsByTurn
next_is_by_turn run h c past some before =
    let k = total_steps past - turn_length h past in
    came run h k past some (omega (arith, turn_within h past)) ∙ counts_come k c run.plan.script before

-- Steps.

total_grows : (h n : ℕ) (past : List Item) → total_steps (steps h n past) ≡ total_steps past + n
total_grows h zero past = omega arith
total_grows h (suc n) past = omega (arith, total_grows h n past)

starts_keep : (h n : ℕ) (past : List Item) → start_orders (steps h n past) ≡ start_orders past
unfolding start_orders
starts_keep h zero past = refl
starts_keep h (suc n) past = starts_keep h n past

by_hart : (h k : ℕ) (past : List Item) → 0 < k → line_party (steps h k past) ≡ h
unfolding line_party
by_hart h zero past some = absurd (omega (arith, some))
by_hart h (suc k) past some = refl

next_after : (run : Run) (h n : ℕ) (past : List Item)
    → next_line run (steps h (suc n) past) ≡ (if is_turning h past then next_line run past else come run past)
unfolding next_line
next_after run h zero past = refl
next_after run h (suc n) past =
    rw (lt-ltb 0 (turn_length h (steps h (suc n) past)) (omega (arith, turn_grows h (suc n) past))) (next_after run h n past)

next_behind : (run : Run) (h k : ℕ) (past : List Item) → 0 < k
    → next_line run (steps h k past) ≡ (if is_turning h past then next_line run past else come run past)
next_behind run h zero past some = absurd (omega (arith, some))
next_behind run h (suc k) past some = next_after run h k past

-- What isn't wanted.

first_none : {A : Type 0} (a b : Option A) → option_or a b ≡ None → a ≡ None
first_none None b none = refl
first_none (Some x) b none = absurd cc

rest_none : {A B : Type 0} (a : Option B) (b : Option A) (f : A → B) → option_or a (option_map f b) ≡ None → b ≡ None
rest_none None None f none = refl
rest_none None (Some x) f none = absurd cc
rest_none (Some y) b f none = absurd cc

pub none_missing : (run : Run) (past : List Item) → wanted run past ≡ None → missing_install run past ≡ None
unfolding wanted
none_missing run past none = first_none (missing_install run past) (option_map (line_item past) (owed_line run past)) none

none_owed : (run : Run) (past : List Item) → wanted run past ≡ None → owed_line run past ≡ None
unfolding wanted
none_owed run past none = rest_none (missing_install run past) (owed_line run past) (line_item past) none

-- a line that wasn't to stand before the Turn, and is allowed and to be judged behind it, came in the Turn
comes_within : (run : Run) (h k i : ℕ) (t : Timed) (past : List Item) → IsNonDecreasingBy (λ t. t.when) run.plan.script
    → wanted run past ≡ None → 0 < k → next_line run (steps h k past) ≤ i → IsLine run.plan.script i t
    → allowed (plugins run (steps h k past)) t.order ≡ true → t.when ≤ total_steps past → ⊥
comes_within run h k i t past rising none some next is may low =
    let behind = next_behind run h k past some in
    let allows : allowed (plugins run past) t.order ≡ true =
    ap (λ (r : Plugins). allowed r t.order) (sym (plugins_keep run h k past)) ∙ may in
    elim (cases_Bool (is_turning h past)) [
      | inl going ↦
          let from : next_line run past ≤ i =
          omega (arith, next, behind, ap (λ (b : Bool). if b then next_line run past else come run past) going) in
          let off : must_stand run past (line (0 + i) t) ≡ false =
          none_found (must_stand run past) 0 i run.plan.script t (none_owed run past none) is in
          let number : next_line run past ≤ 0 + i = omega (arith, from) in
          false≢true (sym off ∙ both_true (both_true (le-leb (next_line run past) (0 + i) number)
          (le-leb t.when (total_steps past) low)) allows)
      | inr anew ↦
          let from : come run past ≤ i =
          omega (arith, next, behind, ap (λ (b : Bool). if b then next_line run past else come run past) anew) in
          let many : i + 1 ≤ come run past =
          come_count (total_steps past) i run.plan.script t is
          (λ j s le at. omega (arith, low, earlier run.plan.script rising j i s t le at is)) in
          absurd (omega (arith, from, many))
    ]

pub judging_begins : JudgingBegins
judging_begins run h k c before past rising none some few is comes =
    let turning : 0 < turn_length h (steps h k before) = omega (arith, some, turn_grows h k before) in
    let here : ComeBefore run.plan.script (total_steps (steps h k before) - turn_length h (steps h k before)) c =
    subst (λ (xs : List Item). ComeBefore run.plan.script (total_steps xs - turn_length h xs) c) is comes in
    let next : next_line run (steps h k before) ≡ c = next_is_by_turn run h c (steps h k before) turning here in
    subst (IsJudging run h c) (sym is) (record {
      installed = ap (λ (n : ℕ). option_map (λ spec. Ordered Start (Install spec)) (slice_get run.plan.installs n)) (starts_keep h k before)
          ∙ none_missing run before none;
      by = by_hart h k before some;
      next = omega (arith, next);
      refused = λ i t from low at. absurd (omega (arith, from, low, next));
      soon = λ i t from at may.
          elim (cases_Bool (nat_le t.when (total_steps before))) [
            | inl low ↦ absurd (comes_within run h k i t before rising none some (omega (arith, next, from)) at may
                (leb-true t.when (total_steps before) low))
            | inr later ↦ omega (arith, few, total_grows h k before, leb-false t.when (total_steps before) later)
          ];
    })

-- Behind the installs.

opens_at : (run : Run) (past : List Item) → AreStarts past
    → (next_line run past ≡ 0) × (line_party past ≡ NO_PARTY) × (total_steps past ≡ 0)
unfolding next_line line_party
opens_at run [] starts = (refl, refl, refl)
opens_at run (Step hart ∷ past) starts = absurd starts.0
opens_at run (Ordered Start order ∷ past) starts = opens_at run past starts.1
opens_at run (Ordered (Script number who) order ∷ past) starts = absurd starts.0
opens_at run (Ordered (Asked hart plugin) order ∷ past) starts = absurd starts.0
opens_at run (Ordered (Control who) order ∷ past) starts = absurd starts.0
opens_at run (GaveBack hart plugin ∷ past) starts = absurd starts.0
opens_at run (Left hart ∷ past) starts = absurd starts.0
opens_at run (Told who plugin ∷ past) starts = absurd starts.0
opens_at run (Got hart plugin ∷ past) starts = absurd starts.0
opens_at run (Took who plugin ∷ past) starts = absurd starts.0

pub judging_opens : JudgingOpens
judging_opens run past starts none =
    let at = opens_at run past starts in
    record {
      installed = none;
      by = at.1;
      next = omega (arith, at.0);
      refused = λ i t from low is. absurd (omega (arith, low));
      soon = λ i t from is may. omega (arith, at.2);
    }
