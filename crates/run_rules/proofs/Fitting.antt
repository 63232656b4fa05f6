-- The place of a set goes with the registry.
use Rattle.std.proofs.Common.{◌≡◌, ◌≢◌, ◌==◌, ◌&&◌, ◌+◌, ◌-◌, ◌<◌, ◌≤◌, ◌∷◌, [], ◌++◌, ◌∙◌, ℕ, zero, suc, Bool, true, false, not, List}
use Rattle.std.proofs.Common.{Option, Some, None, refl, sym, ap, subst, arith, nat_lt, nat_le, inl, inr, length, map}
use Rattle.std.specs.Prelude.{if◌then◌else◌, slice_index_or, slice_set, is_some, replicate}
use Rattle.std.specs.List.{list_any, range_with_len}
use Rattle.std.proofs.lemmas.Bool.{cases_Bool, false≢true, lt-ltb, leb-true, ltb-true, leb-false, and_left, and_right, or_parts}
use Rattle.std.specs.Cmp.Derive.{both_true}
use Rattle.std.proofs.lemmas.Bool.Decides.{nat_tests}
use Rattle.std.proofs.lemmas.List.{length-set, length-replicate, get_or-set_same, get_or-set_other}
use Rattle.flat_model.specs.declared.plugins.SetSpec.{SetSpec}
use Rattle.flat_model.specs.declared.journals.Item.{Item}
use Rattle.flat_model.specs.declared.journals.Item.TheVariants.{Step, Ordered, GaveBack, Left, Told, Got, Took}
use Rattle.flat_model.specs.declared.journals.Order.{Order}
use Rattle.flat_model.specs.declared.journals.Order.TheVariants.{Install, Register, Reset, Uninstall}
use Rattle.flat_model.specs.declared.journals.PlugState.{PlugState}
use Rattle.flat_model.specs.declared.journals.PlugState.TheVariants.{Live, Idle, Resetting, Leaving, Gone}
use Rattle.flat_model.specs.declared.journals.How.TheVariants as how
use Rattle.flat_model.specs.Registry.{Plugins, Plugin, no_plugin, plugin_of, is_installed, registry, after_order, after_back, after_done, after_leave}
use Rattle.flat_model.specs.Registry.{with_plugin, without_hart, with_set, withdrawn, done_state, owes, is_hart, has_left, is_complete, is_closing}
use Rattle.flat_model.specs.declared.orders.OrderRefusal.{OrderRefusal}
use Rattle.flat_model.specs.declared.orders.OrderRefusal.TheVariants.{NoPlugin, State}
use Rattle.flat_model.specs.Registry.{refusal, state_refusal, set_refusal, box_refusal, first, refused_if, next_state}
use Rattle.run_rules.specs.Guest.{Run, plugins}
use Rattle.run_rules.specs.Due.{allowed}
use Rattle.run_rules.specs.Heard.{is_live}
use Rattle.run_rules.specs.Legal.{Legal, Rule, numbers, is_there, is_finished}
use Rattle.run_rules.specs.Places.{Place, Nowhere, Waiting, WithHart, Parked, Out, place_of, fits, fits_in, owed_by, IsStateLog, StateRule}
use Rattle.run_rules.specs.Places.{registers, got, given_back, left, taken, is_waiting, may_get}
use Rattle.run_rules.specs.Laws.{PlacesFit}
use Rattle.run_rules.proofs.Turns.{first_true, rest_true}
use Rattle.run_rules.proofs.Growing.{fresh}

-- a plug-in that an item doesn't name stays as it is
pub other_place : (r : Plugins) (number plugin : ℕ) (p : Plugin) → 1 ≤ number → 1 ≤ plugin → (number == plugin) ≡ false
    → plugin_of (with_plugin r number p) plugin ≡ plugin_of r plugin
other_place r number plugin p one two off =
    let apart : (plugin - 1) ≢ (number - 1) = λ e. grind (arith, nat_tests, off, e, one, two) in
    get_or-set_other r.plugins (number - 1) (plugin - 1) p no_plugin apart

pub same_place : (r : Plugins) (number : ℕ) (p : Plugin) → number - 1 < length r.plugins → plugin_of (with_plugin r number p) number ≡ p
same_place r number p within = get_or-set_same r.plugins (number - 1) p no_plugin within

-- How fitting places change.

register_fits : (place : Place) (s : PlugState) (o g : Bool) (q : ℕ) (spec : SetSpec)
    → is_some (next_state (Register q spec) s) ≡ true → fits place s o g ≡ true → fits Waiting Live o g ≡ true
register_fits place Live o g q spec some f = absurd (false≢true some)
register_fits place Resetting o g q spec some f = absurd (false≢true some)
register_fits place Leaving o g q spec some f = absurd (false≢true some)
register_fits place Gone o g q spec some f = absurd (false≢true some)
register_fits Nowhere Idle o g q spec some f = f
register_fits Waiting Idle o g q spec some f = absurd (false≢true f)
register_fits WithHart Idle o g q spec some f = absurd (false≢true f)
register_fits Parked Idle o g q spec some f = absurd (false≢true f)
register_fits Out Idle o g q spec some f = absurd (false≢true f)

withdraw_resetting : (place : Place) (o g : Bool) → fits place Live o g ≡ true → fits place Resetting (not g) g ≡ true
withdraw_resetting Nowhere o g f = absurd (false≢true f)
withdraw_resetting Waiting o true f = refl
withdraw_resetting Waiting o false f = refl
withdraw_resetting WithHart true g f = absurd (false≢true f)
withdraw_resetting WithHart false true f = absurd (false≢true f)
withdraw_resetting WithHart false false f = refl
withdraw_resetting Parked true g f = absurd (false≢true f)
withdraw_resetting Parked false true f = refl
withdraw_resetting Parked false false f = absurd (false≢true f)
withdraw_resetting Out o g f = absurd (false≢true f)

withdraw_leaving : (place : Place) (o g : Bool) → fits place Live o g ≡ true → fits place Leaving (not g) g ≡ true
withdraw_leaving Nowhere o g f = absurd (false≢true f)
withdraw_leaving Waiting o true f = refl
withdraw_leaving Waiting o false f = refl
withdraw_leaving WithHart true g f = absurd (false≢true f)
withdraw_leaving WithHart false true f = absurd (false≢true f)
withdraw_leaving WithHart false false f = refl
withdraw_leaving Parked true g f = absurd (false≢true f)
withdraw_leaving Parked false true f = refl
withdraw_leaving Parked false false f = absurd (false≢true f)
withdraw_leaving Out o g f = absurd (false≢true f)

reset_fits : (place : Place) (s : PlugState) (o g : Bool) (q : ℕ)
    → is_some (next_state (Reset q) s) ≡ true → fits place s o g ≡ true → fits place Resetting (not g) g ≡ true
reset_fits place Live o g q some f = withdraw_resetting place o g f
reset_fits place Idle o g q some f = absurd (false≢true some)
reset_fits place Resetting o g q some f = absurd (false≢true some)
reset_fits place Leaving o g q some f = absurd (false≢true some)
reset_fits place Gone o g q some f = absurd (false≢true some)

uninstall_fits : (place : Place) (s : PlugState) (o g : Bool) (q : ℕ)
    → is_some (next_state (Uninstall q) s) ≡ true → fits place s o g ≡ true → fits place Leaving (not g) g ≡ true
uninstall_fits place Live o g q some f = withdraw_leaving place o g f
uninstall_fits Nowhere Idle o g q some f = refl
uninstall_fits Waiting Idle o g q some f = absurd (false≢true f)
uninstall_fits WithHart Idle o g q some f = absurd (false≢true f)
uninstall_fits Parked Idle o g q some f = absurd (false≢true f)
uninstall_fits Out Idle o g q some f = absurd (false≢true f)
uninstall_fits place Resetting o g q some f = absurd (false≢true some)
uninstall_fits place Leaving o g q some f = absurd (false≢true some)
uninstall_fits place Gone o g q some f = absurd (false≢true some)

back_fits : (place : Place) (s : PlugState) (g : Bool) → fits place s true g ≡ true → fits (given_back place) s false g ≡ true
back_fits Nowhere Live g f = absurd (false≢true f)
back_fits Waiting Live g f = absurd (false≢true f)
back_fits WithHart Live g f = absurd (false≢true f)
back_fits Parked Live g f = absurd (false≢true f)
back_fits Out Live g f = absurd (false≢true f)
back_fits Nowhere Idle g f = absurd (false≢true f)
back_fits Waiting Idle g f = absurd (false≢true f)
back_fits WithHart Idle g f = absurd (false≢true f)
back_fits Parked Idle g f = absurd (false≢true f)
back_fits Out Idle g f = absurd (false≢true f)
back_fits Nowhere Resetting g f = refl
back_fits Waiting Resetting g f = refl
back_fits WithHart Resetting g f = refl
back_fits Parked Resetting g f = absurd (false≢true f)
back_fits Out Resetting g f = absurd (false≢true f)
back_fits Nowhere Leaving g f = refl
back_fits Waiting Leaving g f = refl
back_fits WithHart Leaving g f = refl
back_fits Parked Leaving g f = absurd (false≢true f)
back_fits Out Leaving g f = absurd (false≢true f)
back_fits Nowhere Gone g f = absurd (false≢true f)
back_fits Waiting Gone g f = absurd (false≢true f)
back_fits WithHart Gone g f = absurd (false≢true f)
back_fits Parked Gone g f = absurd (false≢true f)
back_fits Out Gone g f = absurd (false≢true f)

leave_fits : (place : Place) (s : PlugState) → fits place s false false ≡ true → fits (left place) s false true ≡ true
leave_fits Nowhere Live f = absurd (false≢true f)
leave_fits Waiting Live f = refl
leave_fits WithHart Live f = refl
leave_fits Parked Live f = absurd (false≢true f)
leave_fits Out Live f = absurd (false≢true f)
leave_fits Nowhere Idle f = refl
leave_fits Waiting Idle f = absurd (false≢true f)
leave_fits WithHart Idle f = absurd (false≢true f)
leave_fits Parked Idle f = absurd (false≢true f)
leave_fits Out Idle f = absurd (false≢true f)
leave_fits Nowhere Resetting f = refl
leave_fits Waiting Resetting f = absurd (false≢true f)
leave_fits WithHart Resetting f = absurd (false≢true f)
leave_fits Parked Resetting f = refl
leave_fits Out Resetting f = refl
leave_fits Nowhere Leaving f = refl
leave_fits Waiting Leaving f = absurd (false≢true f)
leave_fits WithHart Leaving f = absurd (false≢true f)
leave_fits Parked Leaving f = refl
leave_fits Out Leaving f = refl
leave_fits Nowhere Gone f = refl
leave_fits Waiting Gone f = absurd (false≢true f)
leave_fits WithHart Gone f = absurd (false≢true f)
leave_fits Parked Gone f = absurd (false≢true f)
leave_fits Out Gone f = absurd (false≢true f)

told_fits : (s : PlugState) (g : Bool) → is_closing s ≡ true → fits Nowhere (done_state s) false g ≡ true
told_fits Live g closing = absurd (false≢true closing)
told_fits Idle g closing = absurd (false≢true closing)
told_fits Resetting g closing = refl
told_fits Leaving g closing = refl
told_fits Gone g closing = absurd (false≢true closing)

took_fits : (place : Place) (s : PlugState) (g : Bool) → is_closing s ≡ true → fits place s false g ≡ true → fits (taken place) s false g ≡ true
took_fits place Live g closing f = absurd (false≢true closing)
took_fits place Idle g closing f = absurd (false≢true closing)
took_fits place Gone g closing f = absurd (false≢true closing)
took_fits Nowhere Resetting g closing f = refl
took_fits Waiting Resetting g closing f = refl
took_fits WithHart Resetting g closing f = absurd (false≢true f)
took_fits Parked Resetting g closing f = refl
took_fits Out Resetting g closing f = refl
took_fits Nowhere Leaving g closing f = refl
took_fits Waiting Leaving g closing f = refl
took_fits WithHart Leaving g closing f = absurd (false≢true f)
took_fits Parked Leaving g closing f = refl
took_fits Out Leaving g closing f = refl

got_fits : (place : Place) (s : PlugState) (o : Bool)
    → is_live s ≡ true → is_waiting place ≡ true → fits place s o false ≡ true → fits (got place) s o false ≡ true
got_fits place Idle o live waits f = absurd (false≢true live)
got_fits place Resetting o live waits f = absurd (false≢true live)
got_fits place Leaving o live waits f = absurd (false≢true live)
got_fits place Gone o live waits f = absurd (false≢true live)
got_fits Nowhere Live o live waits f = absurd (false≢true waits)
got_fits Waiting Live true live waits f = absurd (false≢true f)
got_fits Waiting Live false live waits f = refl
got_fits WithHart Live o live waits f = absurd (false≢true waits)
got_fits Parked Live o live waits f = absurd (false≢true waits)
got_fits Out Live o live waits f = absurd (false≢true waits)

-- What the registry says after an order.

first_none : (a b : Option OrderRefusal) → first a b ≡ None → a ≡ None
first_none None b none = refl
first_none (Some why) b none = absurd cc

if_none : (test : Bool) (why : OrderRefusal) → refused_if test why ≡ None → test ≡ false
if_none true why none = absurd cc
if_none false why none = refl

then_none : (test : Bool) (a : Option OrderRefusal) (why : OrderRefusal) → (if test then a else Some why) ≡ None → (test ≡ true) × (a ≡ None)
then_none true a why none = (refl, none)
then_none false a why none = absurd cc

not_false : (b : Bool) → not b ≡ false → b ≡ true
not_false true is = refl
not_false false is = absurd (false≢true (sym is))

not_true : (b : Bool) → not b ≡ true → b ≡ false
not_true true is = absurd (false≢true is)
not_true false is = refl

none_refused : (o : Option OrderRefusal) → not (is_some o) ≡ true → o ≡ None
none_refused None is = refl
none_refused (Some why) is = absurd (false≢true is)

-- the state table allows an order that the registry allows
abbrev pub Admits : Plugins → Order → ℕ → Type 0
Admits r order number = (is_installed r number ≡ true) × (is_some (next_state order (plugin_of r number).state) ≡ true)

admits : (r : Plugins) (order : Order) (number : ℕ) → state_refusal r order number ≡ None → Admits r order number
unfolding state_refusal
admits r order number none =
    let p = plugin_of r number in
    let both = then_none (is_installed r number) (refused_if (not (is_some (next_state order p.state))) (State number p.state))
    (NoPlugin number (length r.plugins)) none in
    (both.0, not_false (is_some (next_state order p.state)) (if_none _ (State number p.state) both.1))

pub register_admitted : (r : Plugins) (number : ℕ) (spec : SetSpec) → allowed r (Register number spec) ≡ true → Admits r (Register number spec) number
unfolding refusal
register_admitted r number spec is =
    admits r (Register number spec) number
    (first_none (state_refusal r (Register number spec) number) (first (set_refusal spec) (box_refusal r spec)) (none_refused _ is))

pub reset_admitted : (r : Plugins) (number : ℕ) → allowed r (Reset number) ≡ true → Admits r (Reset number) number
unfolding refusal
reset_admitted r number is = admits r (Reset number) number (none_refused (state_refusal r (Reset number) number) is)

pub uninstall_admitted : (r : Plugins) (number : ℕ) → allowed r (Uninstall number) ≡ true → Admits r (Uninstall number) number
unfolding refusal
uninstall_admitted r number is = admits r (Uninstall number) number (none_refused (state_refusal r (Uninstall number) number) is)

pub installed_from : (r : Plugins) (number : ℕ) → is_installed r number ≡ true → 1 ≤ number
installed_from r number is = ltb-true 0 number (first_true _ _ is)

pub installed_within : (r : Plugins) (number : ℕ) → is_installed r number ≡ true → number - 1 < length r.plugins
installed_within r number is =
    let low : 1 ≤ number = installed_from r number is in
    let high : number ≤ length r.plugins = leb-true number (length r.plugins) (rest_true (nat_lt 0 number) _ is) in
    omega (arith, low, high)

pub append_other : (ps : List Plugin) (x : Plugin) (i : ℕ) → i ≢ length ps → slice_index_or (ps ++ x ∷ []) i no_plugin ≡ slice_index_or ps i no_plugin
append_other [] x zero off = absurd (off refl)
append_other [] x (suc i) off = refl
append_other (p ∷ ps) x zero off = refl
append_other (p ∷ ps) x (suc i) off = append_other ps x i (λ e. off (ap suc e))

pub append_last : (ps : List Plugin) (x : Plugin) (i : ℕ) → i ≡ length ps → slice_index_or (ps ++ x ∷ []) i no_plugin ≡ x
append_last [] x zero at = refl
append_last [] x (suc i) at = absurd (omega (arith, at))
append_last (p ∷ ps) x zero at = absurd (omega (arith, at))
append_last (p ∷ ps) x (suc i) at = append_last ps x i (omega (arith, at))

none_owing : (n h : ℕ) → slice_index_or (replicate n false) h false ≡ false
none_owing zero h = refl
none_owing (suc n) zero = refl
none_owing (suc n) (suc h) = none_owing n h

owing_not_gone : (gone : List Bool) (h : ℕ) → h < length gone → slice_index_or (map not gone) h false ≡ not (slice_index_or gone h false)
owing_not_gone [] h within = absurd (omega (arith, within))
owing_not_gone (b ∷ bs) zero within = refl
owing_not_gone (b ∷ bs) (suc h) within = owing_not_gone bs h (omega (arith, within))

-- a plug-in and a hart fit alike where the registry says the same of them
alike : (r q : Plugins) (place : Place) (plugin h : ℕ) → plugin_of q plugin ≡ plugin_of r plugin → has_left q h ≡ has_left r h
    → fits_in r place plugin h ≡ true → fits_in q place plugin h ≡ true
alike r q place plugin h same gone f =
    ap (λ (p : Plugin). fits place p.state (slice_index_or p.owing h false) (has_left q h)) same
    ∙ ap (λ (g : Bool). fits place (plugin_of r plugin).state (owed_by r plugin h) g) gone ∙ f

-- the plug-in that an order names, once it is as it makes it
named : (r q : Plugins) (before after : Place) (p : Plugin) (plugin h : ℕ) → plugin_of q plugin ≡ p → has_left q h ≡ has_left r h
    → fits after p.state (slice_index_or p.owing h false) (has_left r h) ≡ true → fits_in q after plugin h ≡ true
named r q before after p plugin h is gone f =
    ap (λ (x : Plugin). fits after x.state (slice_index_or x.owing h false) (has_left q h)) is
    ∙ ap (λ (g : Bool). fits after p.state (slice_index_or p.owing h false) g) gone ∙ f

pub number_is : (a b : ℕ) → (a == b) ≡ true → a ≡ b
number_is a b is = grind (arith, nat_tests, is)

-- Each kind of item keeps what fits.

abbrev placed_by : Plugins → Order → ℕ → Place → Place
placed_by r order plugin place = if registers r order plugin then Waiting else place

order_keeps : (r : Plugins) (order : Order) (place : Place) (plugin h : ℕ) → 1 ≤ plugin → h < length r.gone
    → allowed r order ≡ true → fits_in r place plugin h ≡ true → fits_in (after_order order r) (placed_by r order plugin place) plugin h ≡ true
order_keeps r (Install spec) place plugin h one within is f =
    let q = after_order (Install spec) r in
    elim (cases_Bool (length r.plugins + 1 == plugin)) [
      | inl at ↦ rw at (named r q place Waiting (fresh r spec) plugin h
          (append_last r.plugins (fresh r spec) (plugin - 1) (omega (arith, number_is (length r.plugins + 1) plugin at))) refl
          (ap not (none_owing r.harts h)))
      | inr off ↦
          let apart : (plugin - 1) ≢ length r.plugins = λ e. grind (arith, nat_tests, off, e, one) in
          rw off (alike r q place plugin h (append_other r.plugins (fresh r spec) (plugin - 1) apart) refl f)
    ]
order_keeps r (Register number spec) place plugin h one within is f =
    let q = after_order (Register number spec) r in
    let a = register_admitted r number spec is in
    let p = plugin_of r number in
    elim (cases_Bool (number == plugin)) [
      | inl at ↦
          let e : number ≡ plugin = number_is number plugin at in
          let g : fits_in r place number h ≡ true = subst (λ (k : ℕ). fits_in r place k h ≡ true) (sym e) f in
          let there : fits_in q Waiting number h ≡ true =
          named r q place Waiting (with_set p spec) number h (same_place r number (with_set p spec) (installed_within r number a.0)) refl
          (register_fits place p.state (owed_by r number h) (has_left r h) number spec a.1 g) in
          rw at (subst (λ (k : ℕ). fits_in q Waiting k h ≡ true) e there)
      | inr off ↦ rw off (alike r q place plugin h (other_place r number plugin (with_set p spec) (installed_from r number a.0) one off) refl f)
    ]
order_keeps r (Reset number) place plugin h one within is f =
    let q = after_order (Reset number) r in
    let a = reset_admitted r number is in
    let p = plugin_of r number in
    let now = withdrawn p Resetting how.Reset r.gone in
    elim (cases_Bool (number == plugin)) [
      | inl at ↦
          let e : number ≡ plugin = number_is number plugin at in
          let g : fits_in r place number h ≡ true = subst (λ (k : ℕ). fits_in r place k h ≡ true) (sym e) f in
          subst (λ (k : ℕ). fits_in q place k h ≡ true) e
          (named r q place place now number h (same_place r number now (installed_within r number a.0)) refl
          (ap (λ (o : Bool). fits place Resetting o (has_left r h)) (owing_not_gone r.gone h within)
          ∙ reset_fits place p.state (owed_by r number h) (has_left r h) number a.1 g))
      | inr off ↦ alike r q place plugin h (other_place r number plugin now (installed_from r number a.0) one off) refl f
    ]
order_keeps r (Uninstall number) place plugin h one within is f =
    let q = after_order (Uninstall number) r in
    let a = uninstall_admitted r number is in
    let p = plugin_of r number in
    let now = withdrawn p Leaving how.Uninstall r.gone in
    elim (cases_Bool (number == plugin)) [
      | inl at ↦
          let e : number ≡ plugin = number_is number plugin at in
          let g : fits_in r place number h ≡ true = subst (λ (k : ℕ). fits_in r place k h ≡ true) (sym e) f in
          subst (λ (k : ℕ). fits_in q place k h ≡ true) e
          (named r q place place now number h (same_place r number now (installed_within r number a.0)) refl
          (ap (λ (o : Bool). fits place Leaving o (has_left r h)) (owing_not_gone r.gone h within)
          ∙ uninstall_fits place p.state (owed_by r number h) (has_left r h) number a.1 g))
      | inr off ↦ alike r q place plugin h (other_place r number plugin now (installed_from r number a.0) one off) refl f
    ]

set_false : (xs : List Bool) (h : ℕ) → slice_index_or (slice_set xs h false) h false ≡ false
set_false [] h = refl
set_false (b ∷ bs) zero = refl
set_false (b ∷ bs) (suc h) = set_false bs h

set_off : (xs : List Bool) (k h : ℕ) (b : Bool) → (k == h) ≡ false → slice_index_or (slice_set xs k b) h false ≡ slice_index_or xs h false
set_off xs k h b off = get_or-set_other xs k h b false (λ e. grind (arith, nat_tests, off, e))

-- a plug-in once a hart has given it back
abbrev without_back : Plugin → ℕ → Plugin
without_back p k = record p { owing = slice_set p.owing k false }

back_keeps : (r : Plugins) (k q : ℕ) (place : Place) (plugin h : ℕ) → 1 ≤ plugin → owes r k q ≡ true → fits_in r place plugin h ≡ true
    → fits_in (after_back k q r) (if (k == h) && (q == plugin) then given_back place else place) plugin h ≡ true
back_keeps r k q place plugin h one owed f =
    let after = after_back k q r in
    let p = plugin_of r q in
    let installed : is_installed r q ≡ true = first_true (is_installed r q) (slice_index_or p.owing k false) owed in
    let here = same_place r q (without_back p k) (installed_within r q installed) in
    elim (cases_Bool (q == plugin)) [
      | inr off ↦
          rw (and_right (k == h) (q == plugin) off)
          (alike r after place plugin h (other_place r q plugin (without_back p k) (installed_from r q installed) one off) refl f)
      | inl at ↦
          let e : q ≡ plugin = number_is q plugin at in
          let g : fits_in r place q h ≡ true = subst (λ (n : ℕ). fits_in r place n h ≡ true) (sym e) f in
          elim (cases_Bool (k == h)) [
            | inr off ↦
                rw (and_left (k == h) (q == plugin) off) (subst (λ (n : ℕ). fits_in after place n h ≡ true) e
                (named r after place place (without_back p k) q h here refl
                (ap (λ (o : Bool). fits place p.state o (has_left r h)) (set_off p.owing k h false off) ∙ g)))
            | inl own ↦
                let same : k ≡ h = number_is k h own in
                let owes_it : owed_by r q h ≡ true =
                ap (λ (n : ℕ). slice_index_or p.owing n false) (sym same) ∙ rest_true (is_installed r q) (slice_index_or p.owing k false) owed in
                let gives : fits (given_back place) p.state false (has_left r h) ≡ true =
                back_fits place p.state (has_left r h) (ap (λ (o : Bool). fits place p.state o (has_left r h)) (sym owes_it) ∙ g) in
                rw (both_true own at) (subst (λ (n : ℕ). fits_in after (given_back place) n h ≡ true) e
                (named r after place (given_back place) (without_back p k) q h here refl
                (ap (λ (o : Bool). fits (given_back place) p.state o (has_left r h))
                (ap (λ (n : ℕ). slice_index_or (slice_set p.owing n false) h false) same ∙ set_false p.owing h) ∙ gives)))
          ]
    ]

pub left_at : (k : ℕ) (ps : List Plugin) (i : ℕ) → slice_index_or (map (without_hart k) ps) i no_plugin ≡ without_hart k (slice_index_or ps i no_plugin)
left_at k [] i = refl
left_at k (p ∷ ps) zero = refl
left_at k (p ∷ ps) (suc i) = left_at k ps i

-- a hart that owes nothing at all owes no plug-in
any_none : (f : ℕ → Bool) (a n k : ℕ) → list_any f (range_with_len a n) ≡ false → a ≤ k → k < a + n → f k ≡ false
any_none f a zero k none low high = absurd (omega (arith, low, high))
any_none f a (suc n) k none low high =
    elim (cases_Bool (a == k)) [
      | inl at ↦ ap f (sym (number_is a k at)) ∙ (or_parts (f a) (list_any f (range_with_len (a + 1) n)) none).0
      | inr off ↦
          let above : a + 1 ≤ k = grind (arith, nat_tests, off, low) in
          any_none f (a + 1) n k (or_parts (f a) (list_any f (range_with_len (a + 1) n)) none).1 above (omega (arith, high))
    ]

pub beyond : (ps : List Plugin) (i : ℕ) → length ps ≤ i → slice_index_or ps i no_plugin ≡ no_plugin
beyond [] i far = refl
beyond (p ∷ ps) zero far = absurd (omega (arith, far))
beyond (p ∷ ps) (suc i) far = beyond ps i (omega (arith, far))

owes_none : (r : Plugins) (h plugin : ℕ) → 1 ≤ plugin → list_any (λ q. owes r h q) (numbers r) ≡ false → owed_by r plugin h ≡ false
owes_none r h plugin one none =
    elim (cases_Bool (nat_le plugin (length r.plugins))) [
      | inr far ↦
          let past : length r.plugins ≤ plugin - 1 = omega (arith, leb-false plugin (length r.plugins) far) in
          ap (λ (p : Plugin). slice_index_or p.owing h false) (beyond r.plugins (plugin - 1) past)
      | inl near ↦
          let within : plugin ≤ length r.plugins = leb-true plugin (length r.plugins) near in
          let is : owes r h plugin ≡ false = any_none (λ q. owes r h q) 1 (length r.plugins) plugin none one (omega (arith, within)) in
          sym (ap (λ (b : Bool). b && owed_by r plugin h) (both_true (lt-ltb 0 plugin (omega (arith, one))) near)) ∙ is
    ]

leave_keeps : (r : Plugins) (k : ℕ) (place : Place) (plugin h : ℕ) → 1 ≤ plugin → h < length r.gone
    → has_left r k ≡ false → list_any (λ q. owes r k q) (numbers r) ≡ false → fits_in r place plugin h ≡ true
    → fits_in (after_leave k r) (if k == h then left place else place) plugin h ≡ true
leave_keeps r k place plugin h one within stays none f =
    let after = after_leave k r in
    let p = plugin_of r plugin in
    let is : plugin_of after plugin ≡ without_hart k p = left_at k r.plugins (plugin - 1) in
    elim (cases_Bool (k == h)) [
      | inr off ↦
          let gone : has_left after h ≡ has_left r h = set_off r.gone k h true off in
          rw off (named r after place place (without_hart k p) plugin h is gone
          (ap (λ (o : Bool). fits place p.state o (has_left r h)) (set_off p.owing k h false off) ∙ f))
      | inl own ↦
          let same : k ≡ h = number_is k h own in
          let stays_here : has_left r h ≡ false = ap (has_left r) (sym same) ∙ stays in
          let owes_nothing : owed_by r plugin h ≡ false =
          ap (λ (n : ℕ). owed_by r plugin n) (sym same) ∙ owes_none r k plugin one none in
          let before : fits place p.state false false ≡ true =
          ap (λ (o : Bool). fits place p.state o false) (sym owes_nothing)
          ∙ ap (λ (g : Bool). fits place p.state (owed_by r plugin h) g) (sym stays_here) ∙ f in
          let gone : has_left after h ≡ true =
          ap (λ (n : ℕ). slice_index_or (slice_set r.gone n true) h false) same ∙ get_or-set_same r.gone h true false within in
          let owing : slice_index_or (without_hart k p).owing h false ≡ false =
          ap (λ (n : ℕ). slice_index_or (slice_set p.owing n false) h false) same ∙ set_false p.owing h in
          rw own (ap (λ (x : Plugin). fits (left place) x.state (slice_index_or x.owing h false) (has_left after h)) is
          ∙ ap (λ (g : Bool). fits (left place) p.state (slice_index_or (without_hart k p).owing h false) g) gone
          ∙ ap (λ (o : Bool). fits (left place) p.state o true) owing ∙ leave_fits place p.state before)
    ]

all_false : (xs : List Bool) (h : ℕ) → list_any (λ b. b) xs ≡ false → slice_index_or xs h false ≡ false
all_false [] h none = refl
all_false (b ∷ bs) zero none = (or_parts b (list_any (λ c. c) bs) none).0
all_false (b ∷ bs) (suc h) none = all_false bs h (or_parts b (list_any (λ c. c) bs) none).1

-- a plug-in that is complete is being withdrawn, and no hart owes it
abbrev pub Complete : Plugins → ℕ → ℕ → Type 0
Complete r q h = (is_installed r q ≡ true) × (is_closing (plugin_of r q).state ≡ true) × (owed_by r q h ≡ false)

pub complete : (r : Plugins) (q h : ℕ) → is_complete r q ≡ true → Complete r q h
complete r q h is =
    let rest : (is_closing (plugin_of r q).state && not (list_any (λ b. b) (plugin_of r q).owing)) ≡ true = rest_true (is_installed r q) _ is in (
      first_true (is_installed r q) _ is,
      first_true _ _ rest,
      all_false (plugin_of r q).owing h (not_true _ (rest_true (is_closing (plugin_of r q).state) _ rest)),
    )

abbrev done_plugin : Plugin → Plugin
done_plugin p = record p { state = done_state p.state }

tell_keeps : (r : Plugins) (q : ℕ) (place : Place) (plugin h : ℕ) → 1 ≤ plugin → is_complete r q ≡ true → fits_in r place plugin h ≡ true
    → fits_in (after_done q r) (if q == plugin then Nowhere else place) plugin h ≡ true
tell_keeps r q place plugin h one is f =
    let after = after_done q r in
    let p = plugin_of r q in
    let c = complete r q h is in
    elim (cases_Bool (q == plugin)) [
      | inr off ↦ rw off (alike r after place plugin h (other_place r q plugin (done_plugin p) (installed_from r q c.0) one off) refl f)
      | inl at ↦ rw at (subst (λ (n : ℕ). fits_in after Nowhere n h ≡ true) (number_is q plugin at)
          (named r after place Nowhere (done_plugin p) q h (same_place r q (done_plugin p) (installed_within r q c.0)) refl
          (ap (λ (o : Bool). fits Nowhere (done_state p.state) o (has_left r h)) c.2 ∙ told_fits p.state (has_left r h) c.1)))
    ]

take_keeps : (r : Plugins) (q : ℕ) (place : Place) (plugin h : ℕ) → is_complete r q ≡ true → fits_in r place plugin h ≡ true
    → fits_in r (if q == plugin then taken place else place) plugin h ≡ true
take_keeps r q place plugin h is f =
    let c = complete r q h is in
    elim (cases_Bool (q == plugin)) [
      | inr off ↦ rw off f
      | inl at ↦
          let e : q ≡ plugin = number_is q plugin at in
          let closing : is_closing (plugin_of r plugin).state ≡ true = subst (λ (n : ℕ). is_closing (plugin_of r n).state ≡ true) e c.1 in
          let none : owed_by r plugin h ≡ false = subst (λ (n : ℕ). owed_by r n h ≡ false) e c.2 in
          let before : fits place (plugin_of r plugin).state false (has_left r h) ≡ true =
          ap (λ (o : Bool). fits place (plugin_of r plugin).state o (has_left r h)) (sym none) ∙ f in
          rw at (ap (λ (o : Bool). fits (taken place) (plugin_of r plugin).state o (has_left r h)) none
          ∙ took_fits place (plugin_of r plugin).state (has_left r h) closing before)
    ]

get_keeps : (run : Run) (k q : ℕ) (past : List Item) (plugin h : ℕ) → may_get run k q past ≡ true
    → fits_in (plugins run past) (place_of run plugin h past) plugin h ≡ true
    → fits_in (plugins run past) (if (k == h) && (q == plugin) then got (place_of run plugin h past) else place_of run plugin h past) plugin h ≡ true
get_keeps run k q past plugin h may f =
    let r = plugins run past in
    let place = place_of run plugin h past in
    elim (cases_Bool ((k == h) && (q == plugin))) [
      | inr off ↦ rw off f
      | inl at ↦
          let same : k ≡ h = number_is k h (first_true (k == h) _ at) in
          let e : q ≡ plugin = number_is q plugin (rest_true (k == h) _ at) in
          let here : may_get run h plugin past ≡ true =
          ap (λ (n : ℕ). may_get run n plugin past) (sym same) ∙ ap (λ (n : ℕ). may_get run k n past) (sym e) ∙ may in
          let stays : has_left r h ≡ false = not_true _ (rest_true (is_hart r h) _ (first_true (is_there run h past) _ here)) in
          let rest : (is_live (plugin_of r plugin).state && is_waiting place) ≡ true = rest_true (is_there run h past) _ here in
          let before : fits place (plugin_of r plugin).state (owed_by r plugin h) false ≡ true =
          ap (λ (g : Bool). fits place (plugin_of r plugin).state (owed_by r plugin h) g) (sym stays) ∙ f in
          rw at (ap (λ (g : Bool). fits (got place) (plugin_of r plugin).state (owed_by r plugin h) g) stays
          ∙ got_fits place (plugin_of r plugin).state (owed_by r plugin h) (first_true _ _ rest) (rest_true (is_live (plugin_of r plugin).state) _ rest) before)
    ]

gone_long : (run : Run) (past : List Item) → length (plugins run past).gone ≡ run.harts
unfolding registry
gone_long run [] = length-replicate run.harts false
gone_long run (Step hart ∷ past) = gone_long run past
gone_long run (Ordered origin (Install spec) ∷ past) = gone_long run past
gone_long run (Ordered origin (Register number spec) ∷ past) = gone_long run past
gone_long run (Ordered origin (Reset number) ∷ past) = gone_long run past
gone_long run (Ordered origin (Uninstall number) ∷ past) = gone_long run past
gone_long run (GaveBack hart number ∷ past) = gone_long run past
gone_long run (Left hart ∷ past) = length-set (plugins run past).gone hart true ∙ gone_long run past
gone_long run (Told party number ∷ past) = gone_long run past
gone_long run (Got hart number ∷ past) = gone_long run past
gone_long run (Took party number ∷ past) = gone_long run past

item_keeps : (run : Run) (plugin h : ℕ) (x : Item) (past : List Item) → 1 ≤ plugin → h < length (plugins run past).gone
    → Rule run x past → StateRule run x past → fits_in (plugins run past) (place_of run plugin h past) plugin h ≡ true
    → fits_in (plugins run (x ∷ past)) (place_of run plugin h (x ∷ past)) plugin h ≡ true
unfolding registry place_of
item_keeps run plugin h (Step hart) past one within rule state f = f
item_keeps run plugin h (Ordered origin order) past one within rule state f =
    order_keeps (plugins run past) order (place_of run plugin h past) plugin h one within rule.allowed f
item_keeps run plugin h (GaveBack hart number) past one within rule state f =
    back_keeps (plugins run past) hart number (place_of run plugin h past) plugin h one (first_true _ _ rule) f
item_keeps run plugin h (Left hart) past one within rule state f =
    let r = plugins run past in
    let there : is_there run hart past ≡ true = first_true _ _ rule in
    let rest = rest_true (is_finished run hart past) _ (rest_true (is_there run hart past) _ rule) in
    leave_keeps r hart (place_of run plugin h past) plugin h one within (not_true _ (rest_true (is_hart r hart) _ there))
    (not_true _ (first_true _ _ rest)) f
item_keeps run plugin h (Told party number) past one within rule state f =
    tell_keeps (plugins run past) number (place_of run plugin h past) plugin h one (first_true _ _ rule) f
item_keeps run plugin h (Got hart number) past one within rule state f = get_keeps run hart number past plugin h state f
item_keeps run plugin h (Took party number) past one within rule state f =
    take_keeps (plugins run past) number (place_of run plugin h past) plugin h state.0 f

opening_owes : (run : Run) (plugin h : ℕ) → fits_in (plugins run []) (place_of run plugin h []) plugin h ≡ true
unfolding registry place_of
opening_owes run plugin h = refl

pub places_fit : PlacesFit
unfolding Legal IsStateLog
places_fit run plugin h [] one low legal state = opening_owes run plugin h
places_fit run plugin h (x ∷ past) one low legal state =
    item_keeps run plugin h x past one (omega (arith, low, gone_long run past)) legal.1 state.1
    (places_fit run plugin h past one low legal.0 state.0)
