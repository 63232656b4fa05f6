-- What the rules ask of a hart, by what its berth holds.
use Rattle.std.proofs.Common.{◌≡◌, ◌+◌, ◌-◌, ◌<◌, ◌≤◌, ◌&&◌, ◌||◌, ◌∙◌, ℕ, zero, suc, Bool, true, false, not, nat_lt, List, None}
use Rattle.std.proofs.Common.{refl, sym, ap, arith, inl, inr, length}
use Rattle.std.specs.Prelude.{slice_index_or, min, is_some}
use Rattle.std.specs.List.{list_all}
use Rattle.std.proofs.lemmas.Bool.{cases_Bool, false≢true, ltb-true, ltb-false, lt-ltb}
use Rattle.flat_model.specs.declared.journals.Item.{Item}
use Rattle.flat_model.specs.declared.limits.TheConstants.{BLOCK_WORDS}
use Rattle.flat_model.specs.Asks.{stays}
use Rattle.flat_model.specs.Registry.{plugin_of}
use Rattle.flat_model.specs.World.{HartState, Shared}
use Rattle.flat_model.specs.Worlds.{world, hart_of}
use Rattle.run_rules.specs.Guest.{Run, plugins}
use Rattle.run_rules.specs.Heard.{is_live, waiting, steps_since}
use Rattle.run_rules.specs.Due.{turn_length, wanted, is_turning}
use Rattle.run_rules.specs.Legal.{Legal, goes_on_in_time, is_there, runs, owes_any, passes_nothing_by, may_step, numbers}
use Rattle.run_rules.specs.Places.{IsStateLog}
use Rattle.run_order.specs.InOrder.{Task, InOrder, task_run}
use Rattle.kept_order.proofs.Asked.{waits_dead}
use Rattle.kept_order.proofs.Gone.{there_low}
use Rattle.kept_order.proofs.Withdrawals.{plugins_are_few}
use Rattle.watcher_api.specs.Acting.{ask_of}
use Rattle.host_state.specs.State.{StateValue, stored_of}
use Rattle.replay_order.specs.Seats.{Seating, Sits}
use Rattle.replay_order.proofs.Seats.{asks_are_noted}

-- what each state knows of the plug-ins
pub few_plugins : (s : StateValue) → InOrder s.task (stored_of s) → length (plugins (task_run s.task) s.past).plugins ≤ 8
few_plugins s order = plugins_are_few (task_run s.task) s.past order.legal

-- a hart that sits is one of the run
pub hart_low : (t : Task) (h : ℕ) (past : List Item) (b : Seating) → Sits t h past b → h < t.machine.harts
hart_low t h past b sits = there_low (task_run t) h past sits.there

-- its berth has noted what a Live plug-in asked for
pub noted : (s : StateValue) (h p : ℕ) (b : Seating) → 1 ≤ p → InOrder s.task (stored_of s) → Sits s.task h s.past b
    → is_live (plugin_of (plugins (task_run s.task) s.past) p).state ≡ true
    → ask_of p b.asks ≡ waiting (task_run s.task) p h s.past
noted s h p b one order sits live =
    (asks_are_noted s.task h p s.past b one (hart_low s.task h s.past b sits) order.legal order.state_log sits live).0

near : (n : ℕ) → n < 511 → min n BLOCK_WORDS ≡ n
near n low = grind (arith, min)

far : (n : ℕ) → 511 ≤ n → 511 ≤ min n BLOCK_WORDS
far n high = grind (arith, min)

and_false : (b : Bool) → (b && false) ≡ false
and_false true = refl
and_false false = refl

off_lt : (a b : ℕ) → b ≤ a → nat_lt a b ≡ false
off_lt a b high = elim (cases_Bool (nat_lt a b)) [
  | inl is ↦ absurd (omega (arith, ltb-true a b is, high))
  | inr off ↦ off
]

same_time : (n made : ℕ) → (nat_lt (min n BLOCK_WORDS) made && nat_lt (min n BLOCK_WORDS + 1) BLOCK_WORDS)
    ≡ (nat_lt n made && nat_lt (n + 1) BLOCK_WORDS)
same_time n made = elim (cases_Bool (nat_lt n 511)) [
  | inl low ↦ ap (λ (k : ℕ). nat_lt k made && nat_lt (k + 1) BLOCK_WORDS) (near n (ltb-true n 511 low))
  | inr high ↦
      let least : 511 ≤ n = ltb-false n 511 high in
      let cut : nat_lt (min n BLOCK_WORDS + 1) BLOCK_WORDS ≡ false = off_lt (min n BLOCK_WORDS + 1) BLOCK_WORDS (omega (
        arith,
        far n
            least,
      )) in
      let whole : nat_lt (n + 1) BLOCK_WORDS ≡ false = off_lt (n + 1) BLOCK_WORDS (omega (arith, least)) in
      ap (λ (b : Bool). nat_lt (min n BLOCK_WORDS) made && b) cut ∙ and_false (nat_lt (min n BLOCK_WORDS) made)
      ∙ sym (ap (λ (b : Bool). nat_lt n made && b) whole ∙ and_false (nat_lt n made))
]

-- a plug-in whose ask waits goes on in time by what the berth has counted
pub counted : (s : StateValue) (h p made : ℕ) (b : Seating) → 1 ≤ p → InOrder s.task (stored_of s) → Sits s.task h s.past b
    → stays (waiting (task_run s.task) p h s.past) ≡ false → turn_length h s.past ≡ made
    → (nat_lt (slice_index_or b.since (p - 1) 0) made && nat_lt (slice_index_or b.since (p - 1) 0 + 1) BLOCK_WORDS)
    ≡ goes_on_in_time (task_run s.task) h s.past p
counted s h p made b one order sits asks turn =
    let run = task_run s.task in
    elim (cases_Bool (is_live (plugin_of (plugins run s.past) p).state)) [
      | inl live ↦
          let n = steps_since run p h s.past in
          let since : slice_index_or b.since (p - 1) 0 ≡ min n BLOCK_WORDS =
          (asks_are_noted s.task h p s.past b one (hart_low s.task h s.past b sits) order.legal order.state_log sits live).1 asks in
          ap (λ (k : ℕ). nat_lt k made && nat_lt (k + 1) BLOCK_WORDS) since ∙ same_time n made
          ∙ ap (λ (k : ℕ). nat_lt n k && nat_lt (n + 1) BLOCK_WORDS) (sym turn)
          ∙ sym (ap (λ (a : Bool). a || (nat_lt n (turn_length h s.past) && nat_lt (n + 1) BLOCK_WORDS)) asks)
      | inr dead ↦ absurd (false≢true (sym asks ∙ ap stays (waits_dead run p h s.past dead)))
    ]

-- and one that asked for nothing does
pub unasked : (s : StateValue) (h p : ℕ) → stays (waiting (task_run s.task) p h s.past) ≡ true
    → true ≡ goes_on_in_time (task_run s.task) h s.past p
unasked s h p none =
    let run = task_run s.task in
    sym (ap (λ (a : Bool). a || (nat_lt (steps_since run p h s.past) (turn_length h s.past) && nat_lt (steps_since run p h s.past + 1)
    BLOCK_WORDS)) none)

or_true : (b : Bool) → (b || true) ≡ true
or_true true = refl
or_true false = refl

-- a Turn goes on past what is wanted, and begins where nothing is
begins_or_goes : (run : Run) (h made : ℕ) (past : List Item) → turn_length h past ≡ made → (made ≡ 0 → wanted run past ≡ None)
    → (is_turning h past || passes_nothing_by run past) ≡ true
begins_or_goes run h zero past turn none =
    ap (λ o. is_turning h past || not (is_some o)) (none refl) ∙ or_true (is_turning h past)
begins_or_goes run h (suc k) past turn none =
    ap (λ (b : Bool). b || passes_nothing_by run past) (lt-ltb 0 (turn_length h past) (omega (arith, turn)))

-- a hart may step where it is there, by the rest of the rule
module _ (run : Run) (h made : ℕ) (past : List Item) (there : is_there run h past ≡ true) (turn : turn_length h past ≡ made)
    (none : made ≡ 0 → wanted run past ≡ None) where
  abbrev on : Bool
  on = list_all (goes_on_in_time run h past) (numbers (plugins run past))

  stepping : may_step run h past ≡ (runs run h past && (not (owes_any run h past) && on))
  stepping =
      ap (λ (b : Bool). b && (runs run h past && (not (owes_any run h past) && ((is_turning h past || passes_nothing_by run past) &&
      on)))) there
      ∙ ap (λ (b : Bool). runs run h past && (not (owes_any run h past) && (b && on))) (begins_or_goes run h made past turn none)

  pub stands_still : runs run h past ≡ false → may_step run h past ≡ false
  stands_still off = stepping ∙ ap (λ (b : Bool). b && (not (owes_any run h past) && on)) off

  pub owes_first : owes_any run h past ≡ true → may_step run h past ≡ false
  owes_first owes =
      stepping ∙ ap (λ (b : Bool). runs run h past && (not b && on)) owes ∙ and_false (runs run h past)

  pub goes_by_asks : runs run h past ≡ true → owes_any run h past ≡ false → on ≡ may_step run h past
  goes_by_asks is owes =
      sym (stepping ∙ ap (λ (b : Bool). b && (not (owes_any run h past) && on)) is ∙ ap (λ (b : Bool). not b && on) owes)

-- a hart runs by what it is and what the state has
pub runs_by : (s : StateValue) (h : ℕ) (hart : HartState) → InOrder s.task (stored_of s)
    → hart ≡ hart_of s.task.machine s.task.mode s.past h
    → (not hart.parked && (not (is_some hart.ending) && not (is_some s.services.group))) ≡ runs (task_run s.task) h s.past
runs_by s h hart order is =
    ap (λ (x : HartState). not x.parked && (not (is_some x.ending) && not (is_some s.services.group))) is
    ∙ ap (λ (w : Shared). not (hart_of s.task.machine s.task.mode s.past h).parked
    && (not (is_some (hart_of s.task.machine s.task.mode s.past h).ending) && not (is_some w.group))) order.shared
