-- What a runner has stays as it is while others hold the state.
use Rattle.std.proofs.Common.{◌≡◌, ◌==◌, ◌&&◌, ◌+◌, ◌-◌, ◌<◌, ◌≤◌, ◌∷◌, [], ◌++◌, ◌∙◌, ℕ, zero, suc, Bool, true, false, not, List}
use Rattle.std.proofs.Common.{Option, Some, None, refl, sym, ap, arith, nat_lt, inl, inr, length}
use Rattle.std.specs.Prelude.{if◌then◌else◌, slice_index_or, slice_set}
use Rattle.std.specs.List.{filter_map, cons_option, range_with_len}
use Rattle.std.proofs.lemmas.Bool.{cases_Bool, false≢true}
use Rattle.std.proofs.lemmas.Bool.Decides.{nat_tests}
use Rattle.std.proofs.lemmas.List.{get_or-set_other}
use Rattle.flat_model.specs.declared.plugins.SetSpec.{SetSpec}
use Rattle.flat_model.specs.declared.journals.Item.{Item}
use Rattle.flat_model.specs.declared.journals.Item.TheVariants.{Step, Ordered, GaveBack, Left, Told, Got, Took}
use Rattle.flat_model.specs.declared.journals.Order.TheVariants.{Install, Register, Reset, Uninstall}
use Rattle.flat_model.specs.declared.journals.PlugState.TheVariants.{Gone}
use Rattle.flat_model.specs.Log.{party}
use Rattle.flat_model.specs.Registry.{Plugin, no_plugin, plugin_of, registry, sets_of, is_hart, has_left}
use Rattle.flat_model.specs.World.{Start}
use Rattle.flat_model.specs.Worlds.{world, hart_of}
use Rattle.run_rules.specs.Guest.{Run, plugins}
use Rattle.run_rules.specs.Heard.{is_live, waiting}
use Rattle.run_rules.specs.Laws.{AreOfOthers, KeepsSet}
use Rattle.run_rules.specs.Legal.{Legal, is_there}
use Rattle.run_rules.specs.Places.{Waiting, IsStateLog, place_of, is_with_hart, registers, fits, owed_by}
use Rattle.run_rules.proofs.Fitting.{beyond, places_fit}
use Rattle.run_rules.proofs.Growing.{item_grows}
use Rattle.run_rules.proofs.Keeping.{gone_none, others_leave_sets_alone}
use Rattle.run_order.specs.InOrder.{Task, task_run}
use Rattle.run_order.proofs.Staying.{hart_stays, sets_stay}
use Rattle.kept_order.specs.Going.{OthersLeaveRunnersAlone, LeftIsLeft}
use Rattle.kept_order.specs.Hearing.{spec_at, specs_for}
use Rattle.kept_order.proofs.Arrivals.{last_spec}
use Rattle.kept_order.proofs.Asked.{asked_by, state_at, registered_by, item_live, waits_live, none_waits}
use Rattle.kept_order.proofs.Gone.{as_many, unstarted}

-- A log before others added to it.

legal_before : (run : Run) (more past : List Item) → Legal run (more ++ past) → Legal run past
unfolding Legal
legal_before run [] past legal = legal
legal_before run (x ∷ more) past legal = legal_before run more past legal.0

state_before : (run : Run) (more past : List Item) → IsStateLog run (more ++ past) → IsStateLog run past
unfolding IsStateLog
state_before run [] past state = state
state_before run (x ∷ more) past state = state_before run more past state.0

never_fewer : (run : Run) (more past : List Item) → length (plugins run past).plugins ≤ length (plugins run (more ++ past)).plugins
never_fewer run [] past = omega arith
never_fewer run (x ∷ more) past = omega (arith, never_fewer run more past, (item_grows run x (more ++ past)).more)

-- Which harts have left.

kept_true : (xs : List Bool) (k h : ℕ) → slice_index_or xs h false ≡ true → slice_index_or (slice_set xs k true) h false ≡ true
kept_true [] k h is = absurd (false≢true is)
kept_true (b ∷ bs) zero zero is = refl
kept_true (b ∷ bs) zero (suc h) is = is
kept_true (b ∷ bs) (suc k) zero is = is
kept_true (b ∷ bs) (suc k) (suc h) is = kept_true bs k h is

left_still : (run : Run) (h : ℕ) (x : Item) (past : List Item) → has_left (plugins run past) h ≡ true
    → has_left (plugins run (x ∷ past)) h ≡ true
unfolding registry
left_still run h (Step hart) past is = is
left_still run h (Ordered origin (Install spec)) past is = is
left_still run h (Ordered origin (Register number spec)) past is = is
left_still run h (Ordered origin (Reset number)) past is = is
left_still run h (Ordered origin (Uninstall number)) past is = is
left_still run h (GaveBack hart number) past is = is
left_still run h (Left hart) past is = kept_true (plugins run past).gone hart h is
left_still run h (Told who number) past is = is
left_still run h (Got hart number) past is = is
left_still run h (Took who number) past is = is

pub left_is_left : LeftIsLeft
left_is_left run h [] past is = is
left_is_left run h (x ∷ more) past is = left_still run h x (more ++ past) (left_is_left run h more past is)

-- another party's item lets no hart leave but its own
left_same : (run : Run) (h : ℕ) (x : Item) (past : List Item) → (party x == h) ≡ false
    → has_left (plugins run (x ∷ past)) h ≡ has_left (plugins run past) h
unfolding registry
left_same run h (Step hart) past other = refl
left_same run h (Ordered origin (Install spec)) past other = refl
left_same run h (Ordered origin (Register number spec)) past other = refl
left_same run h (Ordered origin (Reset number)) past other = refl
left_same run h (Ordered origin (Uninstall number)) past other = refl
left_same run h (GaveBack hart number) past other = refl
left_same run h (Left hart) past other =
    get_or-set_other (plugins run past).gone hart h true false (λ e. grind (arith, nat_tests, other, e))
left_same run h (Told who number) past other = refl
left_same run h (Got hart number) past other = refl
left_same run h (Took who number) past other = refl

all_left_same : (run : Run) (h : ℕ) (more past : List Item) → AreOfOthers h more
    → has_left (plugins run (more ++ past)) h ≡ has_left (plugins run past) h
all_left_same run h [] past others = refl
all_left_same run h (x ∷ more) past others = left_same run h x (more ++ past) others.0 ∙ all_left_same run h more past others.1

there_same : (run : Run) (h : ℕ) (more past : List Item) → AreOfOthers h more → is_there run h (more ++ past) ≡ is_there run h past
there_same run h more past others =
    ap (λ (n : ℕ). nat_lt h n && not (has_left (plugins run (more ++ past)) h)) (as_many run (more ++ past) ∙ sym (as_many run past))
    ∙ ap (λ (gone : Bool). is_hart (plugins run past) h && not gone) (all_left_same run h more past others)

-- The filters of the sets.

either_same : {X : Type 0} (now past : Bool) (x y : X) → now ≡ past → (past ≡ true → x ≡ y)
    → (if now then Some x else None) ≡ (if past then Some y else None)
either_same true true x y same is = ap (λ z. Some z) (is refl)
either_same false false x y same is = refl
either_same true false x y same is = absurd (false≢true (sym same))
either_same false true x y same is = absurd (false≢true same)

spec_same : (run : Run) (plugin h : ℕ) (past now : List Item) → KeepsSet run plugin h past now
    → spec_at run h now plugin ≡ spec_at run h past plugin
spec_same run plugin h past now keeps =
    either_same (is_with_hart (place_of run plugin h now)) (is_with_hart (place_of run plugin h past))
    (plugin, last_spec (sets_of (plugins run now) plugin)) (plugin, last_spec (sets_of (plugins run past) plugin)) keeps.there
    (λ with. ap (λ (sets : List SetSpec). (plugin, last_spec sets)) (keeps.sets with))

-- a plug-in that isn't installed has no set with a hart
none_beyond : (run : Run) (plugin h : ℕ) (past : List Item) → length (plugins run past).plugins < plugin → h < run.harts
    → Legal run past → IsStateLog run past → spec_at run h past plugin ≡ None
none_beyond run plugin h past far low legal state =
    let r = plugins run past in
    let place = place_of run plugin h past in
    let none : plugin_of r plugin ≡ no_plugin = beyond r.plugins (plugin - 1) (omega (arith, far)) in
    let fit : fits place Gone (owed_by r plugin h) (has_left r h) ≡ true =
    ap (λ (p : Plugin). fits place p.state (owed_by r plugin h) (has_left r h)) (sym none)
    ∙ places_fit run plugin h past (omega (arith, far)) low legal state in
    ap (λ (b : Bool). if b then Some (plugin, last_spec (sets_of r plugin)) else None)
    (gone_none place (owed_by r plugin h) (has_left r h) fit)

-- what is gathered of more numbers, where the ones past the first n give nothing
more_give_none : {X : Type 0} (f : ℕ → Option X) (a n m : ℕ) → n ≤ m → ((k : ℕ) → a + n ≤ k → f k ≡ None)
    → filter_map f (range_with_len a m) ≡ filter_map f (range_with_len a n)
more_give_none f a zero zero le none = refl
more_give_none f a (suc n) zero le none = absurd (omega (arith, le))
more_give_none f a zero (suc m) le none =
    ap (λ o. cons_option o (filter_map f (range_with_len (a + 1) m))) (none a (omega arith))
    ∙ more_give_none f (a + 1) zero m (omega arith) (λ k far. none k (omega (arith, far)))
more_give_none f a (suc n) (suc m) le none =
    ap (cons_option (f a)) (more_give_none f (a + 1) n m (omega (arith, le)) (λ k far. none k (omega (arith, far))))

gives_same : {X : Type 0} (f g : ℕ → Option X) (a n : ℕ) → ((k : ℕ) → a ≤ k → f k ≡ g k)
    → filter_map f (range_with_len a n) ≡ filter_map g (range_with_len a n)
gives_same f g a zero same = refl
gives_same f g a (suc n) same =
    ap (λ o. cons_option o (filter_map f (range_with_len (a + 1) n))) (same a (omega arith))
    ∙ ap (cons_option (g a)) (gives_same f g (a + 1) n (λ k far. same k (omega (arith, far))))

specs_same : (run : Run) (h : ℕ) (more past : List Item) → h < run.harts → AreOfOthers h more
    → Legal run (more ++ past) → IsStateLog run (more ++ past) → specs_for run h (more ++ past) ≡ specs_for run h past
specs_same run h more past low others legal state =
    let now = more ++ past in
    let n = length (plugins run past).plugins in
    let m = length (plugins run now).plugins in
    gives_same (spec_at run h now) (spec_at run h past) 1 m
    (λ plugin one. spec_same run plugin h past now (others_leave_sets_alone run plugin h more past one low others legal state))
    ∙ more_give_none (spec_at run h past) 1 n m (never_fewer run more past)
    (λ plugin far. none_beyond run plugin h past (omega (arith, far)) low (legal_before run more past legal)
    (state_before run more past state))

-- What plug-ins wait for.

-- an item that leaves a set with a hart didn't register it
not_registered : (run : Run) (plugin h : ℕ) (x : Item) (past : List Item)
    → is_with_hart (place_of run plugin h (x ∷ past)) ≡ true → registered_by (plugins run past) x plugin ≡ false
unfolding place_of
not_registered run plugin h (Step hart) past with = refl
not_registered run plugin h (Ordered origin order) past with =
    elim (cases_Bool (registers (plugins run past) order plugin)) [
      | inr off ↦ off
      | inl at ↦ absurd (false≢true
          (sym (ap (λ (b : Bool). is_with_hart (if b then Waiting else place_of run plugin h past)) at) ∙ with))
    ]
not_registered run plugin h (GaveBack hart number) past with = refl
not_registered run plugin h (Left hart) past with = refl
not_registered run plugin h (Told who number) past with = refl
not_registered run plugin h (Got hart number) past with = refl
not_registered run plugin h (Took who number) past with = refl

-- so a plug-in that has a set with the hart, and is Live once others have held the state, was Live before
live_before : (run : Run) (plugin h : ℕ) (more past : List Item) → 1 ≤ plugin → h < run.harts → AreOfOthers h more
    → Legal run (more ++ past) → IsStateLog run (more ++ past) → is_with_hart (place_of run plugin h past) ≡ true
    → is_live (state_at run plugin (more ++ past)) ≡ true → is_live (state_at run plugin past) ≡ true
unfolding Legal IsStateLog
live_before run plugin h [] past one low others legal state with live = live
live_before run plugin h (x ∷ more) past one low others legal state with live =
    let log = more ++ past in
    let keeps : KeepsSet run plugin h past (x ∷ log) = others_leave_sets_alone run plugin h (x ∷ more) past one low others legal state in
    let off = not_registered run plugin h x log (keeps.there ∙ with) in
    live_before run plugin h more past one low others.1 legal.0 state.0 with (item_live run plugin x log one legal.1 off live)

asks_same : (run : Run) (plugin h : ℕ) (more past : List Item) → 1 ≤ plugin → h < run.harts → AreOfOthers h more
    → Legal run (more ++ past) → IsStateLog run (more ++ past) → is_live (state_at run plugin (more ++ past)) ≡ true
    → waiting run plugin h (more ++ past) ≡ waiting run plugin h past
asks_same run plugin h more past one low others legal state live =
    let now = more ++ past in
    let sets = sets_of (plugins run past) plugin in
    let keeps : KeepsSet run plugin h past now = others_leave_sets_alone run plugin h more past one low others legal state in
    elim (cases_Bool (is_with_hart (place_of run plugin h past))) [
      | inl with ↦
          waits_live run plugin h now one live
          ∙ ap (asked_by run plugin h now) (keeps.sets with)
          ∙ ap (λ p. p.walk.asked) (keeps.heard (last_spec sets) (length sets - 1))
          ∙ sym (waits_live run plugin h past one (live_before run plugin h more past one low others legal state with live))
      | inr off ↦
          none_waits run plugin h now one low legal state (keeps.there ∙ off)
          ∙ sym (none_waits run plugin h past one low (legal_before run more past legal) (state_before run more past state) off)
    ]

-- The hart: one that isn't parked has its start.

hart_same : (t : Task) (h : ℕ) (more past : List Item) (start : Option Start) → h < t.machine.harts → AreOfOthers h more
    → (world t.machine t.mode past).shared.starts h ≡ start → (hart_of t.machine t.mode past h).parked ≡ false
    → hart_of t.machine t.mode (more ++ past) h ≡ hart_of t.machine t.mode past h
hart_same t h more past (Some start) low others is awake = hart_stays t h more past start others is
hart_same t h more past None low others is awake =
    absurd (false≢true (sym awake ∙ (unstarted t.machine t.mode h past low is).parked))

pub others_leave_runners_alone : OthersLeaveRunnersAlone
others_leave_runners_alone t h more past low others legal state =
    let run = task_run t in
    record {
      there = there_same run h more past others;
      sets = sets_stay run h more past low others legal state;
      specs = specs_same run h more past low others legal state;
      asks = λ plugin one live. asks_same run plugin h more past one low others legal state live;
      hart = λ awake. hart_same t h more past ((world t.machine t.mode past).shared.starts h) low others refl awake;
    }
