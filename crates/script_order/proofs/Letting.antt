-- What an order leaves as it was of what a hart's runner has.
use Rattle.std.proofs.Common.{◌≡◌, ◌+◌, ◌-◌, ◌<◌, ◌≤◌, ◌∷◌, ◌∙◌, ℕ, zero, suc, Bool, true, false, List}
use Rattle.std.proofs.Common.{Option, Some, None, refl, sym, ap, arith, inl, inr, length}
use Rattle.std.specs.Prelude.{if◌then◌else◌, is_some}
use Rattle.std.specs.List.{filter_map, cons_option, range_with_len}
use Rattle.std.proofs.lemmas.Bool.{cases_Bool, false≢true}
use Rattle.flat_model.specs.declared.plugins.SetSpec.{SetSpec}
use Rattle.flat_model.specs.declared.journals.Item.{Item}
use Rattle.flat_model.specs.declared.journals.Item.TheVariants.{Ordered}
use Rattle.flat_model.specs.declared.journals.Order.{Order}
use Rattle.flat_model.specs.declared.journals.Order.TheVariants.{Install, Register, Reset, Uninstall}
use Rattle.flat_model.specs.declared.journals.Origin.{Origin}
use Rattle.flat_model.specs.declared.journals.PlugState.{PlugState}
use Rattle.flat_model.specs.declared.journals.PlugState.TheVariants.{Live, Idle, Resetting, Leaving, Gone}
use Rattle.flat_model.specs.Registry.{Plugins, Plugin, no_plugin, plugin_of, sets_of, registry, after_order, has_left, next_state}
use Rattle.flat_model.specs.Worlds.{world}
use Rattle.run_rules.specs.Guest.{Run, plugins}
use Rattle.run_rules.specs.Due.{allowed}
use Rattle.run_rules.specs.Heard.{is_live, waiting}
use Rattle.run_rules.specs.Legal.{Legal, is_there}
use Rattle.run_rules.specs.Places.{Place, Nowhere, Waiting, WithHart, Parked, Out, place_of, fits, fits_in, owed_by, IsStateLog}
use Rattle.run_rules.specs.Places.{registers, is_with_hart}
use Rattle.run_rules.proofs.Fitting.{register_admitted, beyond, number_is, places_fit}
use Rattle.run_rules.proofs.Growing.{item_grows}
use Rattle.run_rules.proofs.Keeping.{gone_none, order_sets}
use Rattle.run_rules.proofs.Tails.{hears_none}
use Rattle.run_order.specs.Sets.{attachment_of, placed_at}
use Rattle.run_order.specs.InOrder.{Task, task_run}
use Rattle.kept_order.specs.Hearing.{spec_at}
use Rattle.kept_order.proofs.Arrivals.{last_spec}
use Rattle.kept_order.proofs.Asked.{asked_by, state_at, item_live, waits_live, none_waits}
use Rattle.kept_order.proofs.Orders.{off_place, off_placed}
use Rattle.script_order.specs.Letting.{LetsBe, OrdersLetHartsBe}

-- A plug-in whose set is registered now has none with the hart.

idle_none : (place : Place) (o g : Bool) → fits place Idle o g ≡ true → is_with_hart place ≡ false
idle_none Nowhere o g f = refl
idle_none Waiting o g f = refl
idle_none WithHart o g f = absurd (false≢true f)
idle_none Parked o g f = refl
idle_none Out o g f = refl

registers_idle : (s : PlugState) (q : ℕ) (spec : SetSpec) → is_some (next_state (Register q spec) s) ≡ true → s ≡ Idle
registers_idle Live q spec some = absurd (false≢true some)
registers_idle Idle q spec some = refl
registers_idle Resetting q spec some = absurd (false≢true some)
registers_idle Leaving q spec some = absurd (false≢true some)
registers_idle Gone q spec some = absurd (false≢true some)

new_none : (r : Plugins) (order : Order) (place : Place) (plugin h : ℕ) → allowed r order ≡ true → registers r order plugin ≡ true
    → fits_in r place plugin h ≡ true → is_with_hart place ≡ false
new_none r (Install spec) place plugin h is at f =
    let e : length r.plugins + 1 ≡ plugin = number_is (length r.plugins + 1) plugin at in
    let p : plugin_of r plugin ≡ no_plugin = beyond r.plugins (plugin - 1) (omega (arith, e)) in
    gone_none place (owed_by r plugin h) (has_left r h)
    (ap (λ (x : Plugin). fits place x.state (owed_by r plugin h) (has_left r h)) (sym p) ∙ f)
new_none r (Register number spec) place plugin h is at f =
    let e : number ≡ plugin = number_is number plugin at in
    let a = register_admitted r number spec is in
    let idle : (plugin_of r plugin).state ≡ Idle =
    ap (λ (n : ℕ). (plugin_of r n).state) (sym e) ∙ registers_idle (plugin_of r number).state number spec a.1 in
    idle_none place (owed_by r plugin h) (has_left r h)
    (ap (λ (s : PlugState). fits place s (owed_by r plugin h) (has_left r h)) (sym idle) ∙ f)
new_none r (Reset number) place plugin h is at f = absurd (false≢true at)
new_none r (Uninstall number) place plugin h is at f = absurd (false≢true at)

-- and waits for it behind the order
new_waits : (run : Run) (origin : Origin) (order : Order) (p h : ℕ) (past : List Item) → registers (plugins run past) order p ≡ true
    → is_with_hart (place_of run p h (Ordered origin order ∷ past)) ≡ false
unfolding place_of
new_waits run origin order p h past at = ap (λ (b : Bool). is_with_hart (if b then Waiting else place_of run p h past)) at

-- what there is of a set that isn't with the hart
none_where : {X : Type 0} (b : Bool) (x : X) → b ≡ false → (if b then Some x else None) ≡ None
none_where true x off = absurd (false≢true (sym off))
none_where false x off = refl

-- an order that may stand behind a log of the state
record MayStand (run : Run) (h : ℕ) (origin : Origin) (order : Order) (past : List Item) : Type 0 where
  low : h < run.harts
  before : Legal run past
  state : IsStateLog run past
  legal : Legal run (Ordered origin order ∷ past)
  state_log : IsStateLog run (Ordered origin order ∷ past)
  may : allowed (plugins run past) order ≡ true

may_stand : (run : Run) (h : ℕ) (origin : Origin) (order : Order) (past : List Item) → h < run.harts
    → Legal run (Ordered origin order ∷ past) → IsStateLog run past → MayStand run h origin order past
unfolding Legal IsStateLog
may_stand run h origin order past low legal state = record {
  low = low;
  before = legal.0;
  state = state;
  legal = legal;
  state_log = (state, tt);
  may = legal.1.allowed;
}

old_none : (run : Run) (origin : Origin) (order : Order) (p h : ℕ) (past : List Item) → MayStand run h origin order past → 1 ≤ p
    → registers (plugins run past) order p ≡ true → is_with_hart (place_of run p h past) ≡ false
old_none run origin order p h past m one at =
    new_none (plugins run past) order (place_of run p h past) p h m.may at (places_fit run p h past one m.low m.before m.state)

-- Its sets.

placed_same : (run : Run) (origin : Origin) (order : Order) (p h : ℕ) (past : List Item) → MayStand run h origin order past → 1 ≤ p
    → placed_at is_with_hart run (Ordered origin order ∷ past) p h ≡ placed_at is_with_hart run past p h
placed_same run origin order p h past m one =
    let now = Ordered origin order ∷ past in
    elim (cases_Bool (registers (plugins run past) order p)) [
      | inr off ↦ off_placed is_with_hart run origin order p h past one m.may off
      | inl at ↦
          none_where (is_with_hart (place_of run p h now)) (attachment_of run p h now) (new_waits run origin order p h past at)
          ∙ sym (none_where (is_with_hart (place_of run p h past)) (attachment_of run p h past)
          (old_none run origin order p h past m one at))
    ]

spec_same : (run : Run) (origin : Origin) (order : Order) (p h : ℕ) (past : List Item) → MayStand run h origin order past → 1 ≤ p
    → spec_at run h (Ordered origin order ∷ past) p ≡ spec_at run h past p
unfolding registry
spec_same run origin order p h past m one =
    let r = plugins run past in
    let now = Ordered origin order ∷ past in
    elim (cases_Bool (registers r order p)) [
      | inr off ↦
          ap (λ (b : Bool). if b then Some (p, last_spec (sets_of (after_order order r) p)) else None)
          (ap is_with_hart (off_place run origin order p h past off))
          ∙ ap (λ (sets : List SetSpec). if is_with_hart (place_of run p h past) then Some (p, last_spec sets) else None)
          (order_sets r order p one m.may off)
      | inl at ↦
          none_where (is_with_hart (place_of run p h now)) (p, last_spec (sets_of (after_order order r) p))
          (new_waits run origin order p h past at)
          ∙ sym (none_where (is_with_hart (place_of run p h past)) (p, last_spec (sets_of r p))
          (old_none run origin order p h past m one at))
    ]

-- no set of a plug-in that isn't installed is with the hart
beyond_none : (run : Run) (p h : ℕ) (past : List Item) → length (plugins run past).plugins < p → h < run.harts
    → Legal run past → IsStateLog run past → is_with_hart (place_of run p h past) ≡ false
beyond_none run p h past far low legal state =
    let r = plugins run past in
    let none : plugin_of r p ≡ no_plugin = beyond r.plugins (p - 1) (omega (arith, far)) in
    gone_none (place_of run p h past) (owed_by r p h) (has_left r h)
    (ap (λ (x : Plugin). fits (place_of run p h past) x.state (owed_by r p h) (has_left r h)) (sym none)
    ∙ places_fit run p h past (omega (arith, far)) low legal state)

-- what is gathered of more numbers, where the ones past the first n give nothing
more_give_none : {X : Type 0} (f : ℕ → Option X) (a n m : ℕ) → n ≤ m → ((k : ℕ) → a + n ≤ k → f k ≡ None)
    → filter_map f (range_with_len a m) ≡ filter_map f (range_with_len a n)
more_give_none f a zero zero le none = refl
more_give_none f a (suc n) zero le none = absurd (omega (arith, le))
more_give_none f a zero (suc m) le none =
    ap (λ o. cons_option o (filter_map f (range_with_len (a + 1) m))) (none a (omega arith))
    ∙ more_give_none f (a + 1) zero m (omega arith) (λ k far. none k (omega (arith, far)))
more_give_none f a (suc n) (suc m) le none =
    ap (cons_option (f a)) (more_give_none f (a + 1) n m (omega (arith, le)) (λ k far. none k (omega (arith, far))))

gives_same : {X : Type 0} (f g : ℕ → Option X) (a n : ℕ) → ((k : ℕ) → a ≤ k → f k ≡ g k)
    → filter_map f (range_with_len a n) ≡ filter_map g (range_with_len a n)
gives_same f g a zero same = refl
gives_same f g a (suc n) same =
    ap (λ o. cons_option o (filter_map f (range_with_len (a + 1) n))) (same a (omega arith))
    ∙ ap (cons_option (g a)) (gives_same f g (a + 1) n (λ k far. same k (omega (arith, far))))

-- The hart.

there_same : (run : Run) (h : ℕ) (origin : Origin) (order : Order) (past : List Item)
    → is_there run h (Ordered origin order ∷ past) ≡ is_there run h past
unfolding registry
there_same run h origin (Install spec) past = refl
there_same run h origin (Register plugin spec) past = refl
there_same run h origin (Reset plugin) past = refl
there_same run h origin (Uninstall plugin) past = refl

asks_same : (run : Run) (origin : Origin) (order : Order) (p h : ℕ) (past : List Item) → MayStand run h origin order past → 1 ≤ p
    → is_live (state_at run p (Ordered origin order ∷ past)) ≡ true
    → waiting run p h (Ordered origin order ∷ past) ≡ waiting run p h past
unfolding registry Legal
asks_same run origin order p h past m one live =
    let now = Ordered origin order ∷ past in
    let r = plugins run past in
    let sets = sets_of r p in
    elim (cases_Bool (registers r order p)) [
      | inl at ↦
          none_waits run p h now one m.low m.legal m.state_log (new_waits run origin order p h past at)
          ∙ sym (none_waits run p h past one m.low m.before m.state (old_none run origin order p h past m one at))
      | inr off ↦
          waits_live run p h now one live
          ∙ ap (asked_by run p h now) (order_sets r order p one m.may off)
          ∙ ap (λ p. p.walk.asked) (hears_none run (last_spec sets) p (length sets - 1) h (Ordered origin order) past refl)
          ∙ sym (waits_live run p h past one (item_live run p (Ordered origin order) past one m.legal.1 off live))
    ]

same_place : (run : Run) (origin : Origin) (order : Order) (p h : ℕ) (past : List Item) → MayStand run h origin order past → 1 ≤ p
    → is_with_hart (place_of run p h (Ordered origin order ∷ past)) ≡ is_with_hart (place_of run p h past)
same_place run origin order p h past m one =
    elim (cases_Bool (registers (plugins run past) order p)) [
      | inr off ↦ ap is_with_hart (off_place run origin order p h past off)
      | inl at ↦ new_waits run origin order p h past at ∙ sym (old_none run origin order p h past m one at)
    ]

was_live : (run : Run) (origin : Origin) (order : Order) (p h : ℕ) (past : List Item) → MayStand run h origin order past → 1 ≤ p
    → is_with_hart (place_of run p h past) ≡ true → is_live (state_at run p (Ordered origin order ∷ past)) ≡ true
    → is_live (state_at run p past) ≡ true
unfolding Legal
was_live run origin order p h past m one with live =
    elim (cases_Bool (registers (plugins run past) order p)) [
      | inr off ↦ item_live run p (Ordered origin order) past one m.legal.1 off live
      | inl at ↦ absurd (false≢true (sym (old_none run origin order p h past m one at) ∙ with))
    ]

unasked_same : (run : Run) (origin : Origin) (order : Order) (p h : ℕ) (past : List Item) → MayStand run h origin order past → 1 ≤ p
    → is_with_hart (place_of run p h past) ≡ false → waiting run p h (Ordered origin order ∷ past) ≡ waiting run p h past
unasked_same run origin order p h past m one off =
    none_waits run p h (Ordered origin order ∷ past) one m.low m.legal m.state_log (same_place run origin order p h past m one ∙ off)
    ∙ sym (none_waits run p h past one m.low m.before m.state off)

-- what is let be twice is let be
pub lets_twice : (t : Task) (h : ℕ) (a b c : List Item) → LetsBe t h a b → LetsBe t h b c → LetsBe t h a c
lets_twice t h a b c u v =
    let run = task_run t in
    record {
      there = v.there ∙ u.there;
      sets = v.sets ∙ u.sets;
      specs = v.specs ∙ u.specs;
      world = v.world ∙ u.world;
      places = λ p one. v.places p one ∙ u.places p one;
      live = λ p one with now. u.live p one with (v.live p one (u.places p one ∙ with) now);
      unasked = λ p one off. v.unasked p one (u.places p one ∙ off) ∙ u.unasked p one off;
      asks = λ p one now. elim (cases_Bool (is_with_hart (place_of run p h a))) [
        | inl with ↦ v.asks p one now ∙ u.asks p one (v.live p one (u.places p one ∙ with) now)
        | inr off ↦ v.unasked p one (u.places p one ∙ off) ∙ u.unasked p one off
      ];
    }

pub lets_be : (t : Task) (h : ℕ) (past : List Item) → LetsBe t h past past
lets_be t h past = record {
  there = refl;
  sets = refl;
  specs = refl;
  world = refl;
  places = λ p one. refl;
  live = λ p one with live. live;
  unasked = λ p one off. refl;
  asks = λ p one live. refl;
}

pub orders_let_harts_be : OrdersLetHartsBe
unfolding world
orders_let_harts_be t h origin order past low legal state =
    let run = task_run t in
    let now = Ordered origin order ∷ past in
    let m = may_stand run h origin order past low legal state in
    let n = length (plugins run past).plugins in
    let k = length (plugins run now).plugins in
    let more : n ≤ k = (item_grows run (Ordered origin order) past).more in
    record {
      there = there_same run h origin order past;
      sets = gives_same (λ p. placed_at is_with_hart run now p h) (λ p. placed_at is_with_hart run past p h) 1 k
          (λ p one. placed_same run origin order p h past m one)
          ∙ more_give_none (λ p. placed_at is_with_hart run past p h) 1 n k more
          (λ p far. none_where (is_with_hart (place_of run p h past)) (attachment_of run p h past)
          (beyond_none run p h past (omega (arith, far)) low m.before state));
      specs = gives_same (spec_at run h now) (spec_at run h past) 1 k (λ p one. spec_same run origin order p h past m one)
          ∙ more_give_none (spec_at run h past) 1 n k more
          (λ p far. none_where (is_with_hart (place_of run p h past)) (p, last_spec (sets_of (plugins run past) p))
          (beyond_none run p h past (omega (arith, far)) low m.before state));
      world = refl;
      places = λ p one. same_place run origin order p h past m one;
      live = λ p one with live. was_live run origin order p h past m one with live;
      unasked = λ p one off. unasked_same run origin order p h past m one off;
      asks = λ p one live. asks_same run origin order p h past m one live;
    }
