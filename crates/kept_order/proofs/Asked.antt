-- What a plug-in waits for on a hart: nothing, where it has no set with the hart.
use Rattle.std.proofs.Common.{◌≡◌, ◌≢◌, ◌==◌, ◌&&◌, ◌+◌, ◌-◌, ◌<◌, ◌≤◌, ◌∷◌, [], ◌++◌, ◌∙◌, ℕ, zero, suc, Bool, true, false, not, List}
use Rattle.std.proofs.Common.{refl, sym, ap, subst, arith, nat_lt, nat_le, inl, inr, length}
use Rattle.std.specs.Prelude.{if◌then◌else◌, slice_index_or, slice_set}
use Rattle.std.specs.Cmp.Derive.{both_true}
use Rattle.std.proofs.lemmas.Bool.{cases_Bool, false≢true, and_right, lt-ltb, lt-leb, leb-true, leb-false}
use Rattle.std.proofs.lemmas.Bool.Decides.{nat_tests}
use Rattle.std.proofs.lemmas.List.{length-append}
use Rattle.flat_model.specs.declared.plugins.Ask.{Ask}
use Rattle.flat_model.specs.declared.plugins.Ask.TheVariants.{Stay, Reset, Uninstall}
use Rattle.flat_model.specs.declared.plugins.SetSpec.{SetSpec}
use Rattle.flat_model.specs.declared.journals.How.TheVariants as how
use Rattle.flat_model.specs.declared.journals.Item.{Item}
use Rattle.flat_model.specs.declared.journals.Item.TheVariants.{Step, Ordered, GaveBack, Left, Told, Got, Took}
use Rattle.flat_model.specs.declared.journals.Order.{Order}
use Rattle.flat_model.specs.declared.journals.Order.TheVariants as orders
use Rattle.flat_model.specs.declared.journals.Origin.{Origin}
use Rattle.flat_model.specs.declared.journals.PlugState.{PlugState}
use Rattle.flat_model.specs.declared.journals.PlugState.TheVariants as states
use Rattle.flat_model.specs.Asks.{stays}
use Rattle.flat_model.specs.Registry.{Plugins, Plugin, no_plugin, plugin_of, is_installed, sets_of, registry, after_order}
use Rattle.flat_model.specs.Registry.{with_set, withdrawn, done_state, is_closing, is_complete, owes}
use Rattle.run_rules.specs.Guest.{Run, plugins}
use Rattle.run_rules.specs.Due.{allowed}
use Rattle.run_rules.specs.Heard.{progress, opening_progress, is_live, waiting}
use Rattle.run_rules.specs.Laws.{steps_by}
use Rattle.run_rules.specs.Legal.{Legal, Rule, asks_nothing, is_there, is_finished, owes_any, passes_nothing_by}
use Rattle.run_rules.specs.Places.{Place, Nowhere, Waiting, WithHart, Parked, Out, place_of, is_waiting, is_with_hart, got}
use Rattle.run_rules.specs.Places.{IsStateLog, registers, given_back, left, taken}
use Rattle.run_rules.proofs.Fitting.{append_other, beyond, complete, installed_from, left_at, number_is, other_place, register_admitted}
use Rattle.run_rules.proofs.Growing.{fresh, later_sets_hear_nothing}
use Rattle.run_rules.proofs.Keeping.{left_sets, order_sets, placed_sets}
use Rattle.run_rules.proofs.Tails.{hears_none}
use Rattle.run_rules.proofs.Turns.{first_true, rest_true}
use Rattle.kept_order.proofs.Arrivals.{last_spec}
use Rattle.kept_order.proofs.Orders.{sets_more}
use Rattle.kept_order.proofs.Listening.{MaySteps, all_at, waits_for_none}

-- what a plug-in's set asked for, by the sets that the plug-in had so far
abbrev pub asked_by : Run → ℕ → ℕ → List Item → List SetSpec → Ask
asked_by run plugin h log sets = (progress run (last_spec sets) plugin (length sets - 1) h log).walk.asked

abbrev pub state_at : Run → ℕ → List Item → PlugState
state_at run plugin log = (plugin_of (plugins run log) plugin).state

-- What an item makes of a plug-in whose set it doesn't register.

abbrev pub registered_by : Plugins → Item → ℕ → Bool
registered_by r (Step hart) plugin = false
registered_by r (Ordered origin order) plugin = registers r order plugin
registered_by r (GaveBack hart number) plugin = false
registered_by r (Left hart) plugin = false
registered_by r (Told party number) plugin = false
registered_by r (Got hart number) plugin = false
registered_by r (Took party number) plugin = false

-- it doesn't make the plug-in Live
set_live : (ps : List Plugin) (k : ℕ) (x : Plugin) (i : ℕ) → (is_live x.state ≡ true → is_live (slice_index_or ps k no_plugin).state ≡ true)
    → is_live (slice_index_or (slice_set ps k x) i no_plugin).state ≡ true → is_live (slice_index_or ps i no_plugin).state ≡ true
set_live [] k x i keeps is = is
set_live (p ∷ ps) zero x zero keeps is = keeps is
set_live (p ∷ ps) zero x (suc i) keeps is = is
set_live (p ∷ ps) (suc k) x zero keeps is = is
set_live (p ∷ ps) (suc k) x (suc i) keeps is = set_live ps k x i keeps is

done_live : (s : PlugState) → is_live (done_state s) ≡ true → is_live s ≡ true
done_live states.Live is = refl
done_live states.Idle is = is
done_live states.Resetting is = is
done_live states.Leaving is = is
done_live states.Gone is = is

order_live : (r : Plugins) (order : Order) (plugin : ℕ) → 1 ≤ plugin → allowed r order ≡ true → registers r order plugin ≡ false
    → is_live (plugin_of (after_order order r) plugin).state ≡ true → is_live (plugin_of r plugin).state ≡ true
order_live r (orders.Install spec) plugin one is off live =
    let apart : (plugin - 1) ≢ length r.plugins = λ e. grind (arith, nat_tests, off, e, one) in
    ap (λ (p : Plugin). is_live p.state) (sym (append_other r.plugins (fresh r spec) (plugin - 1) apart)) ∙ live
order_live r (orders.Register number spec) plugin one is off live =
    let a = register_admitted r number spec is in
    let other = other_place r number plugin (with_set (plugin_of r number) spec) (installed_from r number a.0) one off in
    ap (λ (p : Plugin). is_live p.state) (sym other) ∙ live
order_live r (orders.Reset number) plugin one is off live =
    set_live r.plugins (number - 1) (withdrawn (plugin_of r number) states.Resetting how.Reset r.gone) (plugin - 1)
    (λ is_so. absurd (false≢true is_so)) live
order_live r (orders.Uninstall number) plugin one is off live =
    set_live r.plugins (number - 1) (withdrawn (plugin_of r number) states.Leaving how.Uninstall r.gone) (plugin - 1)
    (λ is_so. absurd (false≢true is_so)) live

pub item_live : (run : Run) (plugin : ℕ) (x : Item) (past : List Item) → 1 ≤ plugin → Rule run x past
    → registered_by (plugins run past) x plugin ≡ false → is_live (state_at run plugin (x ∷ past)) ≡ true
    → is_live (state_at run plugin past) ≡ true
unfolding registry
item_live run plugin (Step hart) past one rule off live = live
item_live run plugin (Ordered origin order) past one rule off live = order_live (plugins run past) order plugin one rule.allowed off live
item_live run plugin (GaveBack hart number) past one rule off live =
    let r = plugins run past in
    let p = plugin_of r number in
    set_live r.plugins (number - 1) (record p { owing = slice_set p.owing hart false }) (plugin - 1) (λ is. is) live
item_live run plugin (Left hart) past one rule off live =
    ap (λ (p : Plugin). is_live p.state) (sym (left_at hart (plugins run past).plugins (plugin - 1))) ∙ live
item_live run plugin (Told party number) past one rule off live =
    let r = plugins run past in
    let p = plugin_of r number in
    set_live r.plugins (number - 1) (record p { state = done_state p.state }) (plugin - 1) (done_live p.state) live
item_live run plugin (Got hart number) past one rule off live = live
item_live run plugin (Took party number) past one rule off live = live

-- and the plug-in has the sets that it had
pub item_sets : (run : Run) (plugin : ℕ) (x : Item) (past : List Item) → 1 ≤ plugin → Rule run x past
    → registered_by (plugins run past) x plugin ≡ false → sets_of (plugins run (x ∷ past)) plugin ≡ sets_of (plugins run past) plugin
unfolding registry
item_sets run plugin (Step hart) past one rule off = refl
item_sets run plugin (Ordered origin order) past one rule off = order_sets (plugins run past) order plugin one rule.allowed off
item_sets run plugin (GaveBack hart number) past one rule off =
    let p = plugin_of (plugins run past) number in
    placed_sets (plugins run past) number plugin (record p { owing = slice_set p.owing hart false }) refl
item_sets run plugin (Left hart) past one rule off = left_sets (plugins run past) hart plugin
item_sets run plugin (Told party number) past one rule off =
    let p = plugin_of (plugins run past) number in
    placed_sets (plugins run past) number plugin (record p { state = done_state p.state }) refl
item_sets run plugin (Got hart number) past one rule off = refl
item_sets run plugin (Took party number) past one rule off = refl

-- What waits.

live_installed : (r : Plugins) (plugin : ℕ) → 1 ≤ plugin → is_live (plugin_of r plugin).state ≡ true → is_installed r plugin ≡ true
live_installed r plugin one live =
    elim (cases_Bool (nat_le plugin (length r.plugins))) [
      | inl near ↦ both_true (lt-ltb 0 plugin one) near
      | inr far ↦
          let none : plugin_of r plugin ≡ no_plugin =
          beyond r.plugins (plugin - 1) (omega (arith, leb-false plugin (length r.plugins) far)) in
          absurd (false≢true (sym (ap (λ (p : Plugin). is_live p.state) none) ∙ live))
    ]

-- a Live plug-in waits for what its set asked for, and another for nothing
pub waits_live : (run : Run) (plugin h : ℕ) (past : List Item) → 1 ≤ plugin → is_live (state_at run plugin past) ≡ true
    → waiting run plugin h past ≡ asked_by run plugin h past (sets_of (plugins run past) plugin)
waits_live run plugin h past one live =
    let r = plugins run past in
    ap (λ (b : Bool). if b then asked_by run plugin h past (sets_of r plugin) else Stay)
    (both_true (live_installed r plugin one live) live)

pub waits_dead : (run : Run) (plugin h : ℕ) (past : List Item) → is_live (state_at run plugin past) ≡ false
    → waiting run plugin h past ≡ Stay
waits_dead run plugin h past dead =
    let r = plugins run past in
    ap (λ (b : Bool). if b then asked_by run plugin h past (sets_of r plugin) else Stay)
    (and_right (is_installed r plugin) (is_live (plugin_of r plugin).state) dead)

stay_is : (a : Ask) → stays a ≡ true → a ≡ Stay
stay_is Stay is = refl
stay_is Reset is = absurd (false≢true is)
stay_is Uninstall is = absurd (false≢true is)

-- a hart that asks nothing
no_asks : (run : Run) (plugin h : ℕ) (past : List Item) → 1 ≤ plugin → asks_nothing run h past ≡ true → waiting run plugin h past ≡ Stay
no_asks run plugin h past one none =
    let r = plugins run past in
    elim (cases_Bool (nat_le plugin (length r.plugins))) [
      | inl near ↦
          stay_is (waiting run plugin h past)
          (all_at (λ p. stays (waiting run p h past)) (length r.plugins) plugin none one (leb-true plugin (length r.plugins) near))
      | inr far ↦
          waits_dead run plugin h past
          (ap (λ (p : Plugin). is_live p.state) (beyond r.plugins (plugin - 1) (omega (arith, leb-false plugin (length r.plugins) far))))
    ]

-- a plug-in that is complete
closing_dead : (s : PlugState) → is_closing s ≡ true → is_live s ≡ false
closing_dead states.Live is = absurd (false≢true is)
closing_dead states.Idle is = refl
closing_dead states.Resetting is = refl
closing_dead states.Leaving is = refl
closing_dead states.Gone is = refl

complete_none : (run : Run) (q plugin h : ℕ) (past : List Item) → is_complete (plugins run past) q ≡ true → (q == plugin) ≡ true
    → waiting run plugin h past ≡ Stay
complete_none run q plugin h past is at =
    let r = plugins run past in
    let e : q ≡ plugin = number_is q plugin at in
    waits_dead run plugin h past
    (closing_dead (state_at run plugin past) (subst (λ (n : ℕ). is_closing (plugin_of r n).state ≡ true) e (complete r q h is).1))

-- where nothing waits, an item brings no ask, unless it is a step of the hart
none_still : (run : Run) (plugin h : ℕ) (x : Item) (past : List Item) → 1 ≤ plugin → Rule run x past
    → registered_by (plugins run past) x plugin ≡ false → steps_by h x ≡ false
    → waiting run plugin h past ≡ Stay → waiting run plugin h (x ∷ past) ≡ Stay
none_still run plugin h x past one rule off other none =
    let sets = sets_of (plugins run past) plugin in
    elim (cases_Bool (is_live (state_at run plugin (x ∷ past)))) [
      | inr dead ↦ waits_dead run plugin h (x ∷ past) dead
      | inl live ↦
          waits_live run plugin h (x ∷ past) one live
          ∙ ap (asked_by run plugin h (x ∷ past)) (item_sets run plugin x past one rule off)
          ∙ ap (λ p. p.walk.asked) (hears_none run (last_spec sets) plugin (length sets - 1) h x past other)
          ∙ sym (waits_live run plugin h past one (item_live run plugin x past one rule off live)) ∙ none
    ]

-- A set that is registered has asked for nothing.

behind : (r : Plugins) (order : Order) (plugin : ℕ) → allowed r order ≡ true → registers r order plugin ≡ true
    → length (sets_of r plugin) ≤ length (sets_of (after_order order r) plugin) - 1
behind r (orders.Install spec) plugin is at =
    let e : length r.plugins + 1 ≡ plugin = number_is (length r.plugins + 1) plugin at in
    let none : length (sets_of r plugin) ≡ 0 =
    ap (λ (b : Bool). length (if nat_lt 0 plugin && b then (plugin_of r plugin).sets else []))
    (lt-leb plugin (length r.plugins) (omega (arith, e)))
    ∙ ap (λ (b : Bool). length (if b then (plugin_of r plugin).sets else [])) (and_right (nat_lt 0 plugin) false refl) in
    omega (arith, none)
behind r (orders.Register number spec) plugin is at =
    let e : number ≡ plugin = number_is number plugin at in
    let more : sets_of (after_order (orders.Register number spec) r) number ≡ sets_of r number ++ spec ∷ [] =
    sets_more r number spec (register_admitted r number spec is) in
    subst (λ (n : ℕ). length (sets_of r n) ≤ length (sets_of (after_order (orders.Register number spec) r) n) - 1) e
    (omega (arith, ap length more, length-append (sets_of r number) (spec ∷ [])))
behind r (orders.Reset number) plugin is at = absurd (false≢true at)
behind r (orders.Uninstall number) plugin is at = absurd (false≢true at)

if_same : (b : Bool) (a : Ask) → a ≡ Stay → (if b then a else Stay) ≡ Stay
if_same true a is = is
if_same false a is = refl

new_none : (run : Run) (plugin h : ℕ) (origin : Origin) (order : Order) (past : List Item) → allowed (plugins run past) order ≡ true
    → registers (plugins run past) order plugin ≡ true → waiting run plugin h (Ordered origin order ∷ past) ≡ Stay
unfolding registry
new_none run plugin h origin order past is at =
    let q = after_order order (plugins run past) in
    let sets = sets_of q plugin in
    let spec = last_spec sets in
    let set = length sets - 1 in
    let opens : progress run spec plugin set h (Ordered origin order ∷ past) ≡ opening_progress spec =
    hears_none run spec plugin set h (Ordered origin order) past refl
    ∙ later_sets_hear_nothing run spec plugin set h past (behind (plugins run past) order plugin is at) in
    if_same (is_installed q plugin && is_live (plugin_of q plugin).state) (asked_by run plugin h (Ordered origin order ∷ past) sets)
    (ap (λ p. p.walk.asked) opens)

-- Where a plug-in has no set with a hart, nothing waits there.

got_with : (place : Place) → is_waiting place ≡ true → is_with_hart (got place) ≡ true
got_with Nowhere is = absurd (false≢true is)
got_with Waiting is = refl
got_with WithHart is = refl
got_with Parked is = absurd (false≢true is)
got_with Out is = absurd (false≢true is)

-- a place that an item moves or not
stays_off : (moves : Bool) (f : Place → Place) (place : Place) → moves ≡ false
    → is_with_hart (if moves then f place else place) ≡ false → is_with_hart place ≡ false
stays_off true f place none is = absurd (false≢true (sym none))
stays_off false f place none is = is

pub none_waits : (run : Run) (plugin h : ℕ) (past : List Item) → 1 ≤ plugin → h < run.harts → Legal run past → IsStateLog run past
    → is_with_hart (place_of run plugin h past) ≡ false → waiting run plugin h past ≡ Stay
unfolding Legal IsStateLog place_of registry
none_waits run plugin h [] one low legal state off = waits_dead run plugin h [] refl
none_waits run plugin h (Step k ∷ past) one low legal state off =
    elim (cases_Bool (k == h)) [
      | inr other ↦
          none_still run plugin h (Step k) past one legal.1 refl other (none_waits run plugin h past one low legal.0 state.0 off)
      | inl own ↦
          let e : k ≡ h = number_is k h own in
          let may : MaySteps run k past = record { legal = legal.0; state_log = state.0; steps = legal.1; takes = state.1 } in
          waits_for_none run h plugin past (Step k ∷ past) low (subst (λ (j : ℕ). MaySteps run j past) e may) one off refl
    ]
none_waits run plugin h (Ordered origin order ∷ past) one low legal state off =
    elim (cases_Bool (registers (plugins run past) order plugin)) [
      | inl at ↦ new_none run plugin h origin order past legal.1.allowed at
      | inr not_at ↦
          none_still run plugin h (Ordered origin order) past one legal.1 not_at refl
          (none_waits run plugin h past one low legal.0 state.0
          (stays_off (registers (plugins run past) order plugin) (λ place. Waiting) (place_of run plugin h past) not_at off))
    ]
none_waits run plugin h (GaveBack k q ∷ past) one low legal state off =
    let own = (k == h) && (q == plugin) in
    none_still run plugin h (GaveBack k q) past one legal.1 refl refl
    (elim (cases_Bool own) [
      | inl is ↦
          let e : k ≡ h = number_is k h (first_true (k == h) (q == plugin) is) in
          let asks : asks_nothing run k past ≡ true = first_true _ _ (rest_true (owes (plugins run past) k q) _ legal.1) in
          no_asks run plugin h past one (subst (λ (j : ℕ). asks_nothing run j past ≡ true) e asks)
      | inr other ↦ none_waits run plugin h past one low legal.0 state.0 (stays_off own given_back (place_of run plugin h past) other off)
    ])
none_waits run plugin h (Left k ∷ past) one low legal state off =
    none_still run plugin h (Left k) past one legal.1 refl refl
    (elim (cases_Bool (k == h)) [
      | inl is ↦
          let e : k ≡ h = number_is k h is in
          let after : (not (owes_any run k past) && (asks_nothing run k past && passes_nothing_by run past)) ≡ true =
          rest_true (is_finished run k past) _ (rest_true (is_there run k past) _ legal.1) in
          let asks : asks_nothing run k past ≡ true = first_true _ _ (rest_true (not (owes_any run k past)) _ after) in
          no_asks run plugin h past one (subst (λ (j : ℕ). asks_nothing run j past ≡ true) e asks)
      | inr other ↦ none_waits run plugin h past one low legal.0 state.0 (stays_off (k == h) left (place_of run plugin h past) other off)
    ])
none_waits run plugin h (Told party q ∷ past) one low legal state off =
    none_still run plugin h (Told party q) past one legal.1 refl refl
    (elim (cases_Bool (q == plugin)) [
      | inl at ↦ complete_none run q plugin h past (first_true _ _ legal.1) at
      | inr other ↦
          none_waits run plugin h past one low legal.0 state.0
          (stays_off (q == plugin) (λ place. Nowhere) (place_of run plugin h past) other off)
    ])
none_waits run plugin h (Got k q ∷ past) one low legal state off =
    let own = (k == h) && (q == plugin) in
    none_still run plugin h (Got k q) past one legal.1 refl refl
    (elim (cases_Bool own) [
      | inl is ↦
          let k_is : k ≡ h = number_is k h (first_true (k == h) (q == plugin) is) in
          let q_is : q ≡ plugin = number_is q plugin (rest_true (k == h) (q == plugin) is) in
          let waits : is_waiting (place_of run q k past) ≡ true =
          rest_true (is_live (state_at run q past)) _ (rest_true (is_there run k past) _ state.1) in
          let here : is_waiting (place_of run plugin h past) ≡ true =
          subst (λ (n : ℕ). is_waiting (place_of run n h past) ≡ true) q_is
          (subst (λ (j : ℕ). is_waiting (place_of run q j past) ≡ true) k_is waits) in
          absurd (false≢true (sym off
          ∙ ap (λ (b : Bool). is_with_hart (if b then got (place_of run plugin h past) else place_of run plugin h past)) is
          ∙ got_with (place_of run plugin h past) here))
      | inr other ↦ none_waits run plugin h past one low legal.0 state.0 (stays_off own got (place_of run plugin h past) other off)
    ])
none_waits run plugin h (Took party q ∷ past) one low legal state off =
    none_still run plugin h (Took party q) past one legal.1 refl refl
    (elim (cases_Bool (q == plugin)) [
      | inl at ↦ complete_none run q plugin h past state.1.0 at
      | inr other ↦
          none_waits run plugin h past one low legal.0 state.0 (stays_off (q == plugin) taken (place_of run plugin h past) other off)
    ])
