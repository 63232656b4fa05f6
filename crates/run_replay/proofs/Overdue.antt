-- Lines of the script that fall due in a long Turn: in time for their place behind it, or not.
use Rattle.std.proofs.Common.{◌≡◌, ◌+◌, ◌-◌, ◌<◌, ◌≤◌, ◌∷◌, ◌∙◌, ℕ, zero, suc, Bool, true, false, List, Option, Some, None}
use Rattle.std.proofs.Common.{refl, sym, ap, subst, arith, length, nat_le, nat_lt, inl, inr}
use Rattle.std.specs.Prelude.{slice_index_or, slice_get, option_map, if◌then◌else◌}
use Rattle.std.specs.List.Sorted.{IsNonDecreasingBy}
use Rattle.std.specs.Option.{option_or, option_map_or}
use Rattle.std.specs.Cmp.Derive.{both_true}
use Rattle.std.proofs.lemmas.Bool.{cases_Bool, false≢true, le-leb, leb-true, leb-false, ltb-true, ltb-false}
use Rattle.flat_model.specs.declared.plugins.SetSpec.{SetSpec}
use Rattle.flat_model.specs.declared.journals.Item.{Item}
use Rattle.flat_model.specs.declared.journals.Item.TheVariants.{Step, Ordered}
use Rattle.flat_model.specs.declared.journals.Order.TheVariants.{Install, Reset}
use Rattle.flat_model.specs.declared.journals.Origin.TheVariants.{Start, Script}
use Rattle.flat_model.specs.declared.journals.Timed.{Timed}
use Rattle.flat_model.specs.declared.limits.TheConstants.{BLOCK_WORDS}
use Rattle.flat_model.specs.Log.{log, steps, total_steps}
use Rattle.flat_model.specs.Registry.{Plugins}
use Rattle.run_rules.specs.Guest.{Run, plugins}
use Rattle.run_rules.specs.Due.{Line, turn_length, line_party, next_line, allowed, is_due, must_stand, owed_line, line_item}
use Rattle.run_rules.specs.Due.{start_orders, missing_install, wanted, in_time}
use Rattle.run_rules.proofs.Turns.{first_true, rest_true, plugins_keep, same}
use Rattle.run_order.specs.InOrder.{InOrder, task_run}
use Rattle.script_order.specs.Judging.{IsLine, ComeBefore, IsJudging}
use Rattle.script_order.proofs.Beginning.{none_missing, next_is_by_turn}
use Rattle.script_order.proofs.Lines.{line, fails, line_at, line_got, same_line, first_passes}
use Rattle.script_order.proofs.Passing.{judging_ends}
use Rattle.script_order.proofs.Totals.{same_total}
use Rattle.host_state.specs.Scripting.{HasTurned}
use Rattle.host_state.specs.State.{StateValue, stored_of}
use Rattle.run_replay.specs.Overdue.{IsTurn, IsOverdue}

-- Steps of one hart.

total_more : (h n : ℕ) (past : List Item) → total_steps (steps h n past) ≡ total_steps past + n
total_more h zero past = omega arith
total_more h (suc n) past = omega (arith, total_more h n past)

turn_more : (h n : ℕ) (past : List Item) → turn_length h (steps h n past) ≡ turn_length h past + n
unfolding turn_length
turn_more h zero past = omega arith
turn_more h (suc n) past =
    ap (λ (b : Bool). if b then turn_length h (steps h n past) + 1 else 0) (same h) ∙ omega (arith, turn_more h n past)

starts_keep : (h n : ℕ) (past : List Item) → start_orders (steps h n past) ≡ start_orders past
unfolding start_orders
starts_keep h zero past = refl
starts_keep h (suc n) past = starts_keep h n past

by_hart : (h n : ℕ) (past : List Item) → 0 < n → line_party (steps h n past) ≡ h
unfolding line_party
by_hart h zero past some = absurd (omega (arith, some))
by_hart h (suc n) past some = refl

pub steps_sum : (h m n : ℕ) (past : List Item) → steps h (m + n) past ≡ steps h m (steps h n past)
steps_sum h zero n past = ap (λ (k : ℕ). steps h k past) (omega arith)
steps_sum h (suc m) n past =
    let next : suc m + n ≡ suc (m + n) = omega arith in
    ap (λ (k : ℕ). steps h k past) next ∙ ap (λ (xs : List Item). Step h ∷ xs) (steps_sum h m n past)

pub turn_within : (run : Run) (h n : ℕ) (past : List Item) → IsTurn run h n past → n ≤ total_steps past
turn_within run h n past turn = omega (arith, ap total_steps turn.is, total_more h n turn.before)

-- the total that a state's journal tells
pub total_by : (s : StateValue) (total : ℕ) → InOrder s.task (stored_of s) → total ≡ total_steps (log s.journal.entries)
    → total ≡ total_steps s.past
total_by s total order is = is ∙ ap total_steps order.journal ∙ same_total s.past

-- no install is missing behind the steps of a log where nothing is wanted
none_missing_then : (run : Run) (h n : ℕ) (past : List Item) → wanted run past ≡ None → missing_install run (steps h n past) ≡ None
none_missing_then run h n past none =
    ap (λ (k : ℕ). option_map (λ spec. Ordered Start (Install spec)) (slice_get run.plan.installs k)) (starts_keep h n past)
    ∙ none_missing run past none

-- what is wanted, where no install is missing and this line is owed
wants : (run : Run) (past : List Item) (l : Line) → missing_install run past ≡ None → owed_line run past ≡ Some l
    → wanted run past ≡ Some (line_item past l)
unfolding wanted
wants run past l none owed =
    ap (λ (m : Option Item). option_or m (option_map (line_item past) (owed_line run past))) none
    ∙ ap (option_map (line_item past)) owed

-- lines that are refused, with one more
pub refused_more : (ts : List Timed) (p : Timed → Bool) (c k : ℕ) (t : Timed) → IsLine ts k t → p t ≡ false
    → ((j : ℕ) (s : Timed) → c ≤ j → j < k → IsLine ts j s → p s ≡ false)
    → (j : ℕ) (s : Timed) → c ≤ j → j < k + 1 → IsLine ts j s → p s ≡ false
refused_more ts p c k t is off before j s from low at = elim (cases_Bool (nat_lt j k)) [
  | inl below ↦ before j s from (ltb-true j k below) at
  | inr above ↦
      let here : j ≡ k = omega (arith, low, ltb-false j k above) in
      let same_one : s ≡ t = sym (same_line ts j s t at) ∙ ap (λ (i : ℕ). slice_index_or ts i t) here ∙ is.there in
      ap p same_one ∙ off
]

-- A Turn of up to 512 steps.
pub short_turn : (run : Run) (h n : ℕ) (past : List Item) → IsTurn run h n past → n ≤ BLOCK_WORDS → HasTurned run h past
short_turn run h n past turn few =
    record { before = turn.before; made = n; is = turn.is; some = turn.some; most = few; caught_up = turn.caught_up }

-- A longer one: line c is the first that hadn't come when it began, and line d the first that hadn't come 512 steps ago.
module _ (run : Run) (h n c d : ℕ) (past : List Item) (rising : IsNonDecreasingBy (λ t. t.when) run.plan.script)
    (turn : IsTurn run h n past) (long : BLOCK_WORDS < n) (first : ComeBefore run.plan.script (total_steps past - n) c)
    (last : ComeBefore run.plan.script (total_steps past - BLOCK_WORDS) d) where
  total_is : total_steps past ≡ total_steps turn.before + n
  total_is = ap total_steps turn.is ∙ total_more h n turn.before

  turn_is : turn_length h past ≡ n
  turn_is = omega (arith, ap (turn_length h) turn.is, turn_more h n turn.before, turn.anew)

  next_is : next_line run past ≡ c
  next_is =
      next_is_by_turn run h c past (omega (arith, turn_is, turn.some))
      (subst (λ (k : ℕ). ComeBefore run.plan.script (total_steps past - k) c) (sym turn_is) first)

  -- a line between them that is allowed, and the first one
  pub overdue_at : (i : ℕ) (t : Timed) → c ≤ i → i < d → IsLine run.plan.script i t → allowed (plugins run past) t.order ≡ true
      → ((j : ℕ) (s : Timed) → c ≤ j → j < i → IsLine run.plan.script j s → allowed (plugins run past) s.order ≡ false)
      → IsOverdue run past
  overdue_at i t from low is may before =
      let late : t.when ≤ total_steps past - BLOCK_WORDS = last.come i t low is in
      let stands : must_stand run past (line (0 + i) t) ≡ true =
      both_true (both_true (le-leb (next_line run past) (0 + i) (omega (arith, next_is, from)))
      (le-leb t.when (total_steps past) (omega (arith, late)))) may in
      let owed : owed_line run past ≡ Some (line (0 + i) t) =
      first_passes (must_stand run past) 0 i run.plan.script t is (λ j s below at.
      fails (must_stand run past (line (0 + j) s)) (λ on.
      let due : is_due run past (line (0 + j) s) ≡ true = first_true _ _ on in
      let not_before : next_line run past ≤ 0 + j = leb-true (next_line run past) (0 + j) (first_true _ _ due) in
      false≢true (sym (before j s (omega (arith, not_before, next_is)) below at)
      ∙ rest_true (is_due run past (line (0 + j) s)) _ on))) stands in
      let missing : missing_install run past ≡ None =
      ap (missing_install run) turn.is ∙ none_missing_then run h n turn.before turn.caught_up in
      let number : 0 + i ≡ i = omega arith in
      record {
        line = 0 + i;
        party = line_party past;
        order = t.order;
        wanted = wants run past (line (0 + i) t) missing owed;
        late = ap (λ (k : ℕ). in_time run k past) number
            ∙ ap (λ (o : Option Timed). option_map_or (λ t. nat_lt (total_steps past) (t.when + BLOCK_WORDS)) o false)
            (line_got run.plan.script i t is)
            ∙ fails (nat_lt (total_steps past) (t.when + BLOCK_WORDS)) (λ on.
            let early = ltb-true (total_steps past) (t.when + BLOCK_WORDS) on in
            omega (arith, late, early, long, total_is));
      }

  -- where none is, the plan wanted nothing 512 steps ago
  mid : List Item
  mid = steps h (n - BLOCK_WORDS) turn.before

  mid_total : total_steps mid ≡ total_steps past - BLOCK_WORDS
  unfolding mid
  mid_total = omega (arith, total_more h (n - BLOCK_WORDS) turn.before, total_is, long)

  mid_turn : turn_length h mid ≡ n - BLOCK_WORDS
  unfolding mid
  mid_turn = omega (arith, turn_more h (n - BLOCK_WORDS) turn.before, turn.anew)

  mid_next : next_line run mid ≡ c
  mid_next =
      let same_place : total_steps mid - turn_length h mid ≡ total_steps past - n = omega (arith, mid_total, mid_turn, long, total_is) in
      next_is_by_turn run h c mid (omega (arith, mid_turn, long))
      (subst (λ (k : ℕ). ComeBefore run.plan.script k c) (sym same_place) first)

  mid_plugins : plugins run mid ≡ plugins run past
  unfolding mid
  mid_plugins =
      plugins_keep run h (n - BLOCK_WORDS) turn.before
      ∙ sym (ap (plugins run) turn.is ∙ plugins_keep run h n turn.before)

  none_line : Timed
  none_line = record { when = 0; order = Reset 0 }

  rises : c ≤ d
  rises = elim (cases_Bool (nat_le c d)) [
    | inl low ↦ leb-true c d low
    | inr high ↦
        let below : d < c = leb-false c d high in
        let at = line_at run.plan.script d none_line (omega (arith, below, first.within)) in
        let came = first.come d (slice_index_or run.plan.script d none_line) below at in
        let later = last.later d (slice_index_or run.plan.script d none_line) (omega arith) at in
        absurd (omega (arith, came, later, long))
  ]

  pub in_time_then : ((j : ℕ) (s : Timed) → c ≤ j → j < d → IsLine run.plan.script j s → allowed (plugins run past) s.order ≡ false)
      → HasTurned run h past
  unfolding mid
  in_time_then none =
      let judging : IsJudging run h d mid = record {
        installed = none_missing_then run h (n - BLOCK_WORDS) turn.before turn.caught_up;
        by = by_hart h (n - BLOCK_WORDS) turn.before (omega (arith, long));
        next = omega (arith, mid_next, rises);
        refused = λ i t from low at.
            ap (λ (r : Plugins). allowed r t.order) mid_plugins ∙ none i t (omega (arith, mid_next, from)) low at;
        soon = λ i t from at may. omega (arith, last.later i t from at, mid_total, long);
      } in
      let parts : n ≡ BLOCK_WORDS + (n - BLOCK_WORDS) = omega (arith, long) in
      record {
        before = mid;
        made = BLOCK_WORDS;
        is = turn.is ∙ ap (λ (k : ℕ). steps h k turn.before) parts ∙ steps_sum h BLOCK_WORDS (n - BLOCK_WORDS) turn.before;
        some = omega arith;
        most = omega arith;
        caught_up = judging_ends run h d mid rising judging (λ t at. omega (arith, last.later d t (omega arith) at, mid_total));
      }
