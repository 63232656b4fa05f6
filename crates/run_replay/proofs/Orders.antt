-- Orders leave every hart's berth as it is, whoever gives them.
use Rattle.std.proofs.Common.{◌≡◌, ◌==◌, ◌&&◌, ◌+◌, ◌-◌, ◌<◌, ◌≤◌, ◌∷◌, [], ◌++◌, ◌∙◌, ℕ, suc, Bool, true, false, not, List}
use Rattle.std.proofs.Common.{Option, Some, None, refl, sym, ap, subst, arith, inl, inr, nat_lt, length, All}
use Rattle.std.specs.Prelude.{is_some, slice_index_or, min, if◌then◌else◌}
use Rattle.std.specs.Cmp.Derive.{both_true}
use Rattle.std.proofs.lemmas.Bool.{cases_Bool, false≢true, ltb-true, lt-ltb}
use Rattle.std.proofs.lemmas.Bool.Decides.{nat_tests}
use Rattle.flat_model.specs.declared.plugins.SetSpec.{SetSpec}
use Rattle.flat_model.specs.declared.journals.Item.{Item}
use Rattle.flat_model.specs.declared.journals.Item.TheVariants.{Step, Ordered, GaveBack, Left, Told, Got, Took}
use Rattle.flat_model.specs.declared.journals.Order.{Order}
use Rattle.flat_model.specs.declared.journals.Order.TheVariants.{Install, Register, Reset, Uninstall}
use Rattle.flat_model.specs.declared.journals.Origin.{Origin}
use Rattle.flat_model.specs.declared.journals.Origin.TheVariants.{Start, Script, Asked, Control}
use Rattle.flat_model.specs.declared.limits.TheConstants.{BLOCK_WORDS}
use Rattle.flat_model.specs.declared.orders.OrderRefusal.{OrderRefusal}
use Rattle.flat_model.specs.Asks.{stays}
use Rattle.flat_model.specs.Registry.{Plugins, registry, is_hart, refusal}
use Rattle.flat_model.specs.World.{World}
use Rattle.flat_model.specs.Worlds.{world}
use Rattle.run_rules.specs.Guest.{Run, plugins}
use Rattle.run_rules.specs.Heard.{progress, no_set, steps_since}
use Rattle.run_rules.specs.Due.{wanted}
use Rattle.run_rules.specs.Legal.{Legal, Rule, is_there}
use Rattle.run_rules.specs.Places.{IsStateLog, Waiting, place_of, is_with_hart, registers}
use Rattle.run_rules.proofs.Keeping.{order_sets}
use Rattle.run_order.specs.InOrder.{Task, InOrder, task_run}
use Rattle.kept_order.proofs.Gone.{as_many}
use Rattle.script_order.specs.Letting.{LetsBe}
use Rattle.script_order.proofs.Letting.{orders_let_harts_be}
use Rattle.host_state.specs.Scripting.{IsLineOf}
use Rattle.host_state.specs.State.{StateValue, stored_of}
use Rattle.replay_order.specs.Seats.{Seating, Sits, woken}
use Rattle.run_replay.specs.declared.berths.Berth.{Berth}
use Rattle.run_replay.specs.Following.{seating_of, IsPlaced}

-- a set that is with the hart behind an order wasn't registered by it
not_new : (run : Run) (h p : ℕ) (origin : Origin) (order : Order) (past : List Item)
    → is_with_hart (place_of run p h (Ordered origin order ∷ past)) ≡ true → registers (plugins run past) order p ≡ false
unfolding place_of
not_new run h p origin order past with =
    elim (cases_Bool (registers (plugins run past) order p)) [
      | inr off ↦ off
      | inl at ↦
          absurd (false≢true (sym (ap (λ (b : Bool). is_with_hart (if b then Waiting else place_of run p h past)) at) ∙ with))
    ]

abbrev since_by : Run → ℕ → ℕ → List Item → List SetSpec → ℕ
since_by run p h log sets = (progress run (slice_index_or sets (length sets - 1) no_set) p (length sets - 1) h log).since

same_since : (run : Run) (h p : ℕ) (origin : Origin) (order : Order) (past : List Item) → 1 ≤ p
    → Legal run (Ordered origin order ∷ past) → is_with_hart (place_of run p h (Ordered origin order ∷ past)) ≡ true
    → steps_since run p h (Ordered origin order ∷ past) ≡ steps_since run p h past
unfolding registry progress Legal
same_since run h p origin order past one legal with =
    ap (since_by run p h past) (order_sets (plugins run past) order p one legal.1.allowed (not_new run h p origin order past with))

state_before : (run : Run) (origin : Origin) (order : Order) (past : List Item) → IsStateLog run (Ordered origin order ∷ past)
    → IsStateLog run past
unfolding IsStateLog
state_before run origin order past state = state.0

-- so a seat is as before, whoever gave the order
order_keeps_seat : (t : Task) (h : ℕ) (origin : Origin) (order : Order) (past : List Item) (s : Seating) → h < t.machine.harts
    → Legal (task_run t) (Ordered origin order ∷ past) → IsStateLog (task_run t) (Ordered origin order ∷ past)
    → Sits t h past s → Sits t h (Ordered origin order ∷ past) s
order_keeps_seat t h origin order past s low legal state sits =
    let run = task_run t in
    let now = Ordered origin order ∷ past in
    let be : LetsBe t h past now = orders_let_harts_be t h origin order past low legal (state_before run origin order past state) in
    record {
      there = be.there ∙ sits.there;
      hart = ap (λ (w : World). w.harts h) be.world ∙ sits.hart
          ∙ ap (λ (w : World). woken h t.machine.harts s.hart (w.shared.starts h)) (sym be.world);
      below = sits.below;
      sets = sits.sets ∙ sym be.sets;
      filters = sits.filters ∙ sym be.specs;
      quiet = λ p one few off. sits.quiet p one few (sym (be.places p one) ∙ off);
      asks = λ p one few with live.
          let had = sym (be.places p one) ∙ with in
          sits.asks p one few had (be.live p one had live) ∙ sym (be.asks p one live);
      since = λ p one few with live some.
          let had = sym (be.places p one) ∙ with in
          sits.since p one few had (be.live p one had live) (ap stays (sym (be.asks p one live)) ∙ some)
          ∙ ap (λ (n : ℕ). min n BLOCK_WORDS) (sym (same_since run h p origin order past one legal with));
    }

pub other_number : (h harts : ℕ) → h < harts → (harts == h) ≡ false
other_number h harts low = grind (arith, nat_tests, low)

-- Who gives an order of a controller.

not_less : (a b : ℕ) → b ≤ a → nat_lt a b ≡ false
not_less a b high =
    elim (cases_Bool (nat_lt a b)) [
      | inl low ↦ absurd (omega (arith, high, ltb-true a b low))
      | inr off ↦ off
    ]

module _ (s : StateValue) (party harts : ℕ) (order : InOrder s.task (stored_of s)) (is : harts ≡ s.task.machine.harts) where
  pub no_hart_gives : harts ≤ party → is_hart s.registry.table party ≡ false
  no_hart_gives high =
      ap (λ (r : Plugins). is_hart r party) order.plugins ∙ ap (nat_lt party) (as_many (task_run s.task) s.past)
      ∙ not_less party s.task.machine.harts (omega (arith, is, high))

  pub no_hart_may : (given : Order) → party < harts → Rule (task_run s.task) (Ordered (Control party) given) s.past → ⊥
  no_hart_may given low rule =
      false≢true (sym rule.given.1 ∙ ap (nat_lt party) (as_many (task_run s.task) s.past)
      ∙ lt-ltb party s.task.machine.harts (omega (arith, is, low)))

-- an order that the registry refuses
pub refused_breaks : (s : StateValue) (origin : Origin) (given : Order) (why : OrderRefusal) → InOrder s.task (stored_of s)
    → refusal s.registry.table given ≡ Some why → Rule (task_run s.task) (Ordered origin given) s.past → ⊥
refused_breaks s origin given why order refused rule =
    let some : refusal (plugins (task_run s.task) s.past) given ≡ Some why =
    ap (λ (r : Plugins). refusal r given) (sym order.plugins) ∙ refused in
    false≢true (ap (λ (x : Option OrderRefusal). not (is_some x)) (sym some) ∙ rule.allowed)

-- an order of the plan, where this wants nothing

abbrev pub IsPlanned : Origin → Type 0
IsPlanned Start = Unit {0}
IsPlanned (Script line party) = Unit {0}
IsPlanned (Asked hart plugin) = ⊥
IsPlanned (Control party) = ⊥

none_some : {A : Type 0} {x : A} → None ≡ Some x → ⊥
none_some is = cc

pub planned_breaks : (s : StateValue) (origin : Origin) (given : Order) → wanted (task_run s.task) s.past ≡ None → IsPlanned origin
    → Rule (task_run s.task) (Ordered origin given) s.past → ⊥
planned_breaks s Start given none planned rule = none_some (sym none ∙ rule.given)
planned_breaks s (Script line party) given none planned rule = none_some (sym none ∙ rule.given.0)
planned_breaks s (Asked hart plugin) given none planned rule = planned
planned_breaks s (Control party) given none planned rule = planned

there_still : (run : Run) (h : ℕ) (origin : Origin) (order : Order) (past : List Item)
    → is_there run h (Ordered origin order ∷ past) ≡ is_there run h past
unfolding registry
there_still run h origin (Install spec) past = refl
there_still run h origin (Register number spec) past = refl
there_still run h origin (Reset number) past = refl
there_still run h origin (Uninstall number) past = refl

module _ {W : Type 0} where
  pub order_keeps_place : (t : Task) (h : ℕ) (origin : Origin) (order : Order) (past : List Item) (b : Option (Berth W)) → h < t.machine.harts
      → Legal (task_run t) (Ordered origin order ∷ past) → IsStateLog (task_run t) (Ordered origin order ∷ past) → IsPlaced t h past b
      → IsPlaced t h (Ordered origin order ∷ past) b
  order_keeps_place t h origin order past None low legal state is = there_still (task_run t) h origin order past ∙ is
  order_keeps_place t h origin order past (Some b) low legal state is = record {
    sits = order_keeps_seat t h origin order past (seating_of b) low legal state is.sits;
    kept = is.kept;
    cached = is.cached;
  }

  -- and so do lines, one after the other
  pub lines_keep_place : (t : Task) (h who : ℕ) (more past : List Item) (b : Option (Berth W)) → h < t.machine.harts
      → All (IsLineOf who) more → Legal (task_run t) (more ++ past) → IsStateLog (task_run t) (more ++ past)
      → IsPlaced t h past b → IsPlaced t h (more ++ past) b
  unfolding Legal IsStateLog
  lines_keep_place t h who [] past b low each legal state is = is
  lines_keep_place t h who (Ordered origin order ∷ more) past b low each legal state is =
      order_keeps_place t h origin order (more ++ past) b low legal state
      (lines_keep_place t h who more past b low (λ k d below. each (suc k) d (omega (arith, below))) legal.0 state.0 is)
  lines_keep_place t h who (Step hart ∷ more) past b low each legal state is = absurd (each 0 (Step hart) (omega arith))
  lines_keep_place t h who (GaveBack hart plugin ∷ more) past b low each legal state is =
      absurd (each 0 (GaveBack hart plugin) (omega arith))
  lines_keep_place t h who (Left hart ∷ more) past b low each legal state is = absurd (each 0 (Left hart) (omega arith))
  lines_keep_place t h who (Told party plugin ∷ more) past b low each legal state is = absurd (each 0 (Told party plugin) (omega arith))
  lines_keep_place t h who (Got hart plugin ∷ more) past b low each legal state is = absurd (each 0 (Got hart plugin) (omega arith))
  lines_keep_place t h who (Took party plugin ∷ more) past b low each legal state is = absurd (each 0 (Took party plugin) (omega arith))
