-- Items of other parties leave a hart's sets alone.
use Rattle.std.proofs.Common.{◌≡◌, ◌≢◌, ◌==◌, ◌&&◌, ◌+◌, ◌-◌, ◌≤◌, ◌∷◌, [], ◌++◌, ◌∙◌, ℕ, zero, suc, Bool, true, false, List}
use Rattle.std.proofs.Common.{refl, sym, ap, subst, arith, nat_lt, nat_le, inl, inr, length}
use Rattle.std.specs.Prelude.{if◌then◌else◌, slice_index_or, slice_set, is_some}
use Rattle.std.proofs.lemmas.Bool.{cases_Bool, false≢true, and_left}
use Rattle.std.proofs.lemmas.Bool.Decides.{nat_tests}
use Rattle.std.proofs.lemmas.List.{length-append, length-set, length-map}
use Rattle.flat_model.specs.declared.plugins.SetSpec.{SetSpec}
use Rattle.flat_model.specs.declared.journals.Item.{Item}
use Rattle.flat_model.specs.declared.journals.Item.TheVariants.{Step, Ordered, GaveBack, Left, Told, Got, Took}
use Rattle.flat_model.specs.declared.journals.Order.{Order}
use Rattle.flat_model.specs.declared.journals.Order.TheVariants.{Install, Register, Reset, Uninstall}
use Rattle.flat_model.specs.declared.journals.PlugState.{PlugState}
use Rattle.flat_model.specs.declared.journals.PlugState.TheVariants.{Live, Idle, Resetting, Leaving, Gone}
use Rattle.flat_model.specs.declared.journals.How.TheVariants as how
use Rattle.flat_model.specs.Log.{party}
use Rattle.flat_model.specs.Registry.{Plugins, Plugin, no_plugin, plugin_of, is_installed, registry, after_order, after_leave}
use Rattle.flat_model.specs.Registry.{with_plugin, without_hart, with_set, withdrawn, done_state, sets_of, has_left, is_complete, is_closing, next_state}
use Rattle.run_rules.specs.Guest.{Run, plugins}
use Rattle.run_rules.specs.Due.{allowed}
use Rattle.run_rules.specs.Legal.{Legal, Rule}
use Rattle.run_rules.specs.Places.{Place, Nowhere, Waiting, WithHart, Parked, Out, place_of, fits, fits_in, owed_by, IsStateLog, StateRule}
use Rattle.run_rules.specs.Places.{registers, is_with_hart, taken}
use Rattle.run_rules.specs.Laws.{steps_by, KeepsSet, OthersLeaveSetsAlone}
use Rattle.run_rules.proofs.Turns.{first_true}
use Rattle.run_rules.proofs.Growing.{fresh}
use Rattle.run_rules.proofs.Fitting.{register_admitted, complete, beyond, number_is, append_other, other_place, left_at, places_fit, installed_from}
use Rattle.run_rules.proofs.Tails.{hears_none}

-- Which plug-ins have no set with a hart.

idle_none : (place : Place) (o g : Bool) → fits place Idle o g ≡ true → is_with_hart place ≡ false
idle_none Nowhere o g f = refl
idle_none Waiting o g f = refl
idle_none WithHart o g f = absurd (false≢true f)
idle_none Parked o g f = refl
idle_none Out o g f = refl

pub gone_none : (place : Place) (o g : Bool) → fits place Gone o g ≡ true → is_with_hart place ≡ false
gone_none Nowhere o g f = refl
gone_none Waiting o g f = refl
gone_none WithHart o g f = absurd (false≢true f)
gone_none Parked o g f = refl
gone_none Out o g f = refl

given_none : (place : Place) (s : PlugState) (g : Bool) → is_closing s ≡ true → fits place s false g ≡ true → is_with_hart place ≡ false
given_none place Live g closing f = absurd (false≢true closing)
given_none place Idle g closing f = absurd (false≢true closing)
given_none place Gone g closing f = absurd (false≢true closing)
given_none Nowhere Resetting g closing f = refl
given_none Waiting Resetting g closing f = refl
given_none WithHart Resetting g closing f = absurd (false≢true f)
given_none Parked Resetting g closing f = refl
given_none Out Resetting g closing f = refl
given_none Nowhere Leaving g closing f = refl
given_none Waiting Leaving g closing f = refl
given_none WithHart Leaving g closing f = absurd (false≢true f)
given_none Parked Leaving g closing f = refl
given_none Out Leaving g closing f = refl

registers_idle : (s : PlugState) (q : ℕ) (spec : SetSpec) → is_some (next_state (Register q spec) s) ≡ true → s ≡ Idle
registers_idle Live q spec some = absurd (false≢true some)
registers_idle Idle q spec some = refl
registers_idle Resetting q spec some = absurd (false≢true some)
registers_idle Leaving q spec some = absurd (false≢true some)
registers_idle Gone q spec some = absurd (false≢true some)

-- a plug-in whose set is registered now has none with a hart
new_none : (r : Plugins) (order : Order) (place : Place) (plugin h : ℕ) → allowed r order ≡ true → registers r order plugin ≡ true
    → fits_in r place plugin h ≡ true → is_with_hart place ≡ false
new_none r (Install spec) place plugin h is at f =
    let e : length r.plugins + 1 ≡ plugin = number_is (length r.plugins + 1) plugin at in
    let p : plugin_of r plugin ≡ no_plugin = beyond r.plugins (plugin - 1) (omega (arith, e)) in
    gone_none place (owed_by r plugin h) (has_left r h)
    (ap (λ (x : Plugin). fits place x.state (owed_by r plugin h) (has_left r h)) (sym p) ∙ f)
new_none r (Register number spec) place plugin h is at f =
    let e : number ≡ plugin = number_is number plugin at in
    let a = register_admitted r number spec is in
    let idle : (plugin_of r plugin).state ≡ Idle =
    ap (λ (n : ℕ). (plugin_of r n).state) (sym e) ∙ registers_idle (plugin_of r number).state number spec a.1 in
    idle_none place (owed_by r plugin h) (has_left r h)
    (ap (λ (s : PlugState). fits place s (owed_by r plugin h) (has_left r h)) (sym idle) ∙ f)
new_none r (Reset number) place plugin h is at f = absurd (false≢true at)
new_none r (Uninstall number) place plugin h is at f = absurd (false≢true at)

complete_none : (r : Plugins) (q : ℕ) (place : Place) (plugin h : ℕ) → is_complete r q ≡ true → (q == plugin) ≡ true
    → fits_in r place plugin h ≡ true → is_with_hart place ≡ false
complete_none r q place plugin h is at f =
    let e : q ≡ plugin = number_is q plugin at in
    let c = complete r q h is in
    let closing : is_closing (plugin_of r plugin).state ≡ true = subst (λ (n : ℕ). is_closing (plugin_of r n).state ≡ true) e c.1 in
    let none : owed_by r plugin h ≡ false = subst (λ (n : ℕ). owed_by r n h ≡ false) e c.2 in
    given_none place (plugin_of r plugin).state (has_left r h) closing
    (ap (λ (o : Bool). fits place (plugin_of r plugin).state o (has_left r h)) (sym none) ∙ f)

taken_none : (place : Place) → is_with_hart place ≡ false → is_with_hart (taken place) ≡ false
taken_none Nowhere none = refl
taken_none Waiting none = refl
taken_none WithHart none = none
taken_none Parked none = refl
taken_none Out none = refl

-- one item of another party neither brings a set nor takes one
there_one : (run : Run) (plugin h : ℕ) (x : Item) (past : List Item) → (party x == h) ≡ false → Rule run x past → StateRule run x past
    → fits_in (plugins run past) (place_of run plugin h past) plugin h ≡ true
    → is_with_hart (place_of run plugin h (x ∷ past)) ≡ is_with_hart (place_of run plugin h past)
unfolding place_of
there_one run plugin h (Step hart) past other rule state f = refl
there_one run plugin h (Ordered origin order) past other rule state f =
    elim (cases_Bool (registers (plugins run past) order plugin)) [
      | inl at ↦ rw at (sym (new_none (plugins run past) order (place_of run plugin h past) plugin h rule.allowed at f))
      | inr off ↦ rw off refl
    ]
there_one run plugin h (GaveBack hart number) past other rule state f = rw (and_left (hart == h) (number == plugin) other) refl
there_one run plugin h (Left hart) past other rule state f = rw other refl
there_one run plugin h (Told who number) past other rule state f =
    elim (cases_Bool (number == plugin)) [
      | inl at ↦ rw at (sym (complete_none (plugins run past) number (place_of run plugin h past) plugin h (first_true _ _ rule) at f))
      | inr off ↦ rw off refl
    ]
there_one run plugin h (Got hart number) past other rule state f = rw (and_left (hart == h) (number == plugin) other) refl
there_one run plugin h (Took who number) past other rule state f =
    elim (cases_Bool (number == plugin)) [
      | inl at ↦
          let none : is_with_hart (place_of run plugin h past) ≡ false =
          complete_none (plugins run past) number (place_of run plugin h past) plugin h state.0 at f in
          rw at (taken_none (place_of run plugin h past) none ∙ sym none)
      | inr off ↦ rw off refl
    ]

-- The sets of a plug-in that an item doesn't register.

abbrev sets_in : Bool → List SetSpec → List SetSpec
sets_in installed sets = if installed then sets else []

set_keeps : (ps : List Plugin) (k : ℕ) (x : Plugin) (i : ℕ) → x.sets ≡ (slice_index_or ps k no_plugin).sets
    → (slice_index_or (slice_set ps k x) i no_plugin).sets ≡ (slice_index_or ps i no_plugin).sets
set_keeps [] k x i same = refl
set_keeps (p ∷ ps) zero x zero same = same
set_keeps (p ∷ ps) zero x (suc i) same = refl
set_keeps (p ∷ ps) (suc k) x zero same = refl
set_keeps (p ∷ ps) (suc k) x (suc i) same = set_keeps ps k x i same

-- of two registries with so many plug-ins each
sets_alike : (r q : Plugins) (plugin : ℕ) → length q.plugins ≡ length r.plugins → (plugin_of q plugin).sets ≡ (plugin_of r plugin).sets
    → sets_of q plugin ≡ sets_of r plugin
sets_alike r q plugin long same =
    ap (λ (n : ℕ). sets_in (nat_lt 0 plugin && nat_le plugin n) (plugin_of q plugin).sets) long
    ∙ ap (λ (sets : List SetSpec). sets_in (is_installed r plugin) sets) same

pub placed_sets : (r : Plugins) (number plugin : ℕ) (p : Plugin) → p.sets ≡ (plugin_of r number).sets
    → sets_of (with_plugin r number p) plugin ≡ sets_of r plugin
placed_sets r number plugin p same =
    sets_alike r (with_plugin r number p) plugin (length-set r.plugins (number - 1) p) (set_keeps r.plugins (number - 1) p (plugin - 1) same)

pub left_sets : (r : Plugins) (k plugin : ℕ) → sets_of (after_leave k r) plugin ≡ sets_of r plugin
left_sets r k plugin =
    sets_alike r (after_leave k r) plugin (length-map r.plugins (without_hart k)) (ap (λ (p : Plugin). p.sets) (left_at k r.plugins (plugin - 1)))

pub order_sets : (r : Plugins) (order : Order) (plugin : ℕ) → 1 ≤ plugin → allowed r order ≡ true → registers r order plugin ≡ false
    → sets_of (after_order order r) plugin ≡ sets_of r plugin
order_sets r (Install spec) plugin one is off =
    let apart : (plugin - 1) ≢ length r.plugins = λ e. grind (arith, nat_tests, off, e, one) in
    let long : length (r.plugins ++ fresh r spec ∷ []) ≡ length r.plugins + 1 = length-append r.plugins (fresh r spec ∷ []) in
    let near : nat_le plugin (length r.plugins + 1) ≡ nat_le plugin (length r.plugins) = grind (arith, nat_tests, off) in
    ap (λ (n : ℕ). sets_in (nat_lt 0 plugin && nat_le plugin n) (plugin_of (after_order (Install spec) r) plugin).sets) long
    ∙ ap (λ (b : Bool). sets_in (nat_lt 0 plugin && b) (plugin_of (after_order (Install spec) r) plugin).sets) near
    ∙ ap (λ (p : Plugin). sets_in (is_installed r plugin) p.sets) (append_other r.plugins (fresh r spec) (plugin - 1) apart)
order_sets r (Register number spec) plugin one is off =
    let a = register_admitted r number spec is in
    let now = with_set (plugin_of r number) spec in
    sets_alike r (after_order (Register number spec) r) plugin (length-set r.plugins (number - 1) now)
    (ap (λ (p : Plugin). p.sets) (other_place r number plugin now (installed_from r number a.0) one off))
order_sets r (Reset number) plugin one is off = placed_sets r number plugin (withdrawn (plugin_of r number) Resetting how.Reset r.gone) refl
order_sets r (Uninstall number) plugin one is off = placed_sets r number plugin (withdrawn (plugin_of r number) Leaving how.Uninstall r.gone) refl

sets_one : (run : Run) (plugin h : ℕ) (x : Item) (past : List Item) → 1 ≤ plugin → Rule run x past
    → fits_in (plugins run past) (place_of run plugin h past) plugin h ≡ true → is_with_hart (place_of run plugin h past) ≡ true
    → sets_of (plugins run (x ∷ past)) plugin ≡ sets_of (plugins run past) plugin
unfolding registry
sets_one run plugin h (Step hart) past one rule f with = refl
sets_one run plugin h (Ordered origin order) past one rule f with =
    elim (cases_Bool (registers (plugins run past) order plugin)) [
      | inl at ↦ absurd (false≢true (sym (new_none (plugins run past) order (place_of run plugin h past) plugin h rule.allowed at f) ∙ with))
      | inr off ↦ order_sets (plugins run past) order plugin one rule.allowed off
    ]
sets_one run plugin h (GaveBack hart number) past one rule f with =
    let p = plugin_of (plugins run past) number in
    placed_sets (plugins run past) number plugin (record p { owing = slice_set p.owing hart false }) refl
sets_one run plugin h (Left hart) past one rule f with = left_sets (plugins run past) hart plugin
sets_one run plugin h (Told who number) past one rule f with =
    let p = plugin_of (plugins run past) number in
    placed_sets (plugins run past) number plugin (record p { state = done_state p.state }) refl
sets_one run plugin h (Got hart number) past one rule f with = refl
sets_one run plugin h (Took who number) past one rule f with = refl

-- an item of another party is no step of the hart
pub no_step : (h : ℕ) (x : Item) → (party x == h) ≡ false → steps_by h x ≡ false
no_step h (Step hart) other = other
no_step h (Ordered origin order) other = refl
no_step h (GaveBack hart number) other = refl
no_step h (Left hart) other = refl
no_step h (Told who number) other = refl
no_step h (Got hart number) other = refl
no_step h (Took who number) other = refl

pub others_leave_sets_alone : OthersLeaveSetsAlone
unfolding Legal IsStateLog
others_leave_sets_alone run plugin h [] past one low others legal state =
    record { there = refl; sets = λ with. refl; heard = λ spec set. refl }
others_leave_sets_alone run plugin h (x ∷ more) past one low others legal state =
    let log = more ++ past in
    let rest : KeepsSet run plugin h past log = others_leave_sets_alone run plugin h more past one low others.1 legal.0 state.0 in
    let f : fits_in (plugins run log) (place_of run plugin h log) plugin h ≡ true = places_fit run plugin h log one low legal.0 state.0 in
    record {
      there = there_one run plugin h x log others.0 legal.1 state.1 f ∙ rest.there;
      sets = λ with. sets_one run plugin h x log one legal.1 f (rest.there ∙ with) ∙ rest.sets with;
      heard = λ spec set. hears_none run spec plugin set h x log (no_step h x others.0) ∙ rest.heard spec set;
    }
