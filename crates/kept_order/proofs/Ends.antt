-- A set is somewhere exactly while its plug-in is Live or withdraws it.
use Rattle.std.proofs.Common.{◌≡◌, ◌≢◌, ◌==◌, ◌&&◌, ◌+◌, ◌-◌, ◌≤◌, ◌∷◌, [], ◌++◌, ◌∙◌, ℕ, zero, suc, Bool, true, false, not, List}
use Rattle.std.proofs.Common.{Option, Some, None, refl, sym, ap, arith, inl, inr, length}
use Rattle.std.specs.Prelude.{if◌then◌else◌, slice_set, slice_get, is_some}
use Rattle.std.proofs.lemmas.Bool.{cases_Bool, false≢true}
use Rattle.std.proofs.lemmas.Bool.Decides.{nat_tests}
use Rattle.flat_model.specs.declared.journals.How.{How}
use Rattle.flat_model.specs.declared.journals.How.TheVariants as how
use Rattle.flat_model.specs.declared.journals.Item.{Item}
use Rattle.flat_model.specs.declared.journals.Item.TheVariants.{Step, Ordered, GaveBack, Left, Told, Got, Took}
use Rattle.flat_model.specs.declared.journals.Order.{Order}
use Rattle.flat_model.specs.declared.journals.Order.TheVariants.{Install, Register, Reset, Uninstall}
use Rattle.flat_model.specs.declared.journals.PlugState.{PlugState}
use Rattle.flat_model.specs.declared.journals.PlugState.TheVariants.{Live, Idle, Resetting, Leaving, Gone}
use Rattle.flat_model.specs.Registry.{Plugins, Plugin, plugin_of, is_installed, registry, after_order, after_done, is_closing, is_complete}
use Rattle.flat_model.specs.Registry.{owes, withdraws, is_withdrawing}
use Rattle.flat_model.specs.Registry.{with_plugin, with_set, withdrawn, done_state, ending_by, next_state}
use Rattle.run_rules.specs.Guest.{Run, plugins}
use Rattle.run_rules.specs.Due.{allowed}
use Rattle.run_rules.specs.Heard.{is_live}
use Rattle.run_rules.specs.Legal.{Legal, Rule}
use Rattle.run_rules.specs.Places.{Place, Nowhere, Waiting, WithHart, Parked, Out, place_of, registers, got, given_back, left, taken}
use Rattle.run_rules.specs.Laws.{EndingsFit}
use Rattle.run_rules.proofs.Endings.{endings_go_with_states}
use Rattle.run_rules.proofs.Fitting.{register_admitted, reset_admitted, uninstall_admitted, complete, number_is, append_last, append_other}
use Rattle.run_rules.proofs.Fitting.{other_place, same_place, left_at, installed_from, installed_within}
use Rattle.run_rules.proofs.Growing.{fresh}
use Rattle.run_rules.proofs.Turns.{first_true}

abbrev pub is_somewhere : Place → Bool
is_somewhere Nowhere = false
is_somewhere Waiting = true
is_somewhere WithHart = true
is_somewhere Parked = true
is_somewhere Out = true

-- whether the last set, which has ended so, was reset
abbrev was_reset : Option How → Bool
was_reset None = false
was_reset (Some how.Reset) = true
was_reset (Some how.Uninstall) = false

-- Whether the set that was registered last is somewhere, by its plug-in's state and its own ending: it is while the plug-in is Live or
-- withdraws it. A plug-in that is uninstalled while Idle has a last set that was reset.
abbrev goes : Bool → PlugState → Option How → Bool
goes there Live ending = there
goes there Idle ending = not there && was_reset ending
goes there Resetting ending = there && was_reset ending
goes there Leaving None = not there
goes there Leaving (Some how.Reset) = not there
goes there Leaving (Some how.Uninstall) = there
goes there Gone ending = not there

abbrev pub last_ending : Plugin → Option How
last_ending p = slice_get p.endings (length p.sets - 1)

abbrev goes_in : Place → Plugin → Bool
goes_in place p = goes (is_somewhere place) p.state (last_ending p)

-- To take a set, to give it back, to leave and to take a closing bring no set from nowhere and take none there.

got_stays : (place : Place) → is_somewhere (got place) ≡ is_somewhere place
got_stays Nowhere = refl
got_stays Waiting = refl
got_stays WithHart = refl
got_stays Parked = refl
got_stays Out = refl

given_stays : (place : Place) → is_somewhere (given_back place) ≡ is_somewhere place
given_stays Nowhere = refl
given_stays Waiting = refl
given_stays WithHart = refl
given_stays Parked = refl
given_stays Out = refl

left_stays : (place : Place) → is_somewhere (left place) ≡ is_somewhere place
left_stays Nowhere = refl
left_stays Waiting = refl
left_stays WithHart = refl
left_stays Parked = refl
left_stays Out = refl

taken_stays : (place : Place) → is_somewhere (taken place) ≡ is_somewhere place
taken_stays Nowhere = refl
taken_stays Waiting = refl
taken_stays WithHart = refl
taken_stays Parked = refl
taken_stays Out = refl

moved_stays : (moves : Bool) (f : Place → Place) (place : Place) → ((q : Place) → is_somewhere (f q) ≡ is_somewhere q)
    → is_somewhere (if moves then f place else place) ≡ is_somewhere place
moved_stays true f place same = same place
moved_stays false f place same = refl

-- The orders that withdraw a set.

last_added : (endings more : List How) (h : How) (n : ℕ) → length endings + 1 ≡ n → more ≡ h ∷ []
    → slice_get (endings ++ more) (n - 1) ≡ Some h
last_added [] more h n long is = rw is (ap (λ (i : ℕ). slice_get (h ∷ []) i) {x = n - 1} {y = 0} (omega (arith, long)))
last_added (e ∷ endings) more h n long is =
    let next : n - 1 ≡ suc (n - 1 - 1) = omega (arith, long) in
    ap (λ (i : ℕ). slice_get (e ∷ endings ++ more) i) next ∙ last_added endings more h (n - 1) (omega (arith, long)) is

none_added : (endings more : List How) (i : ℕ) → more ≡ [] → slice_get (endings ++ more) i ≡ slice_get endings i
none_added [] more i is = ap (λ (hs : List How). slice_get hs i) is
none_added (e ∷ endings) more zero is = refl
none_added (e ∷ endings) more (suc i) is = none_added endings more i is

resets : (there : Bool) (s : PlugState) (q : ℕ) (sets : ℕ) (endings : List How) (ending : Option How)
    → is_some (next_state (Reset q) s) ≡ true → (s ≡ Live → length endings + 1 ≡ sets) → goes there s ending ≡ true
    → goes there Resetting (slice_get (endings ++ ending_by s how.Reset) (sets - 1)) ≡ true
resets there Live q sets endings ending some long f =
    ap (λ (e : Option How). there && was_reset e) (last_added endings (how.Reset ∷ []) how.Reset sets (long refl) refl) ∙ rw f refl
resets there Idle q sets endings ending some long f = absurd (false≢true some)
resets there Resetting q sets endings ending some long f = absurd (false≢true some)
resets there Leaving q sets endings ending some long f = absurd (false≢true some)
resets there Gone q sets endings ending some long f = absurd (false≢true some)

idle_leaves : (there : Bool) (ending : Option How) → goes there Idle ending ≡ true → goes there Leaving ending ≡ true
idle_leaves true ending f = absurd (false≢true f)
idle_leaves false None f = refl
idle_leaves false (Some how.Reset) f = refl
idle_leaves false (Some how.Uninstall) f = absurd (false≢true f)

uninstalls : (there : Bool) (s : PlugState) (q : ℕ) (sets : ℕ) (endings : List How)
    → is_some (next_state (Uninstall q) s) ≡ true → (s ≡ Live → length endings + 1 ≡ sets)
    → goes there s (slice_get endings (sets - 1)) ≡ true
    → goes there Leaving (slice_get (endings ++ ending_by s how.Uninstall) (sets - 1)) ≡ true
uninstalls there Live q sets endings some long f =
    ap (goes there Leaving) (last_added endings (how.Uninstall ∷ []) how.Uninstall sets (long refl) refl) ∙ f
uninstalls there Idle q sets endings some long f =
    ap (goes there Leaving) (none_added endings [] (sets - 1) refl) ∙ idle_leaves there (slice_get endings (sets - 1)) f
uninstalls there Resetting q sets endings some long f = absurd (false≢true some)
uninstalls there Leaving q sets endings some long f = absurd (false≢true some)
uninstalls there Gone q sets endings some long f = absurd (false≢true some)

tells : (there : Bool) (s : PlugState) (ending : Option How) → is_closing s ≡ true → goes there s ending ≡ true
    → goes false (done_state s) ending ≡ true
tells there Live ending closing f = absurd (false≢true closing)
tells there Idle ending closing f = absurd (false≢true closing)
tells true Resetting ending closing f = f
tells false Resetting ending closing f = absurd (false≢true f)
tells there Leaving ending closing f = refl
tells there Gone ending closing f = absurd (false≢true closing)

-- A plug-in that an item changes, and one that it doesn't.

pub off_holds : (test : Plugin → Bool) (r : Plugins) (number plugin : ℕ) (p : Plugin) → is_installed r number ≡ true → 1 ≤ plugin
    → (number == plugin) ≡ false → test (plugin_of r plugin) ≡ true → test (plugin_of (with_plugin r number p) plugin) ≡ true
off_holds test r number plugin p installed one off f =
    ap test (other_place r number plugin p (installed_from r number installed) one off) ∙ f

pub on_holds : (test : Plugin → Bool) (r : Plugins) (number plugin : ℕ) (p : Plugin) → is_installed r number ≡ true
    → (number == plugin) ≡ true → test p ≡ true → test (plugin_of (with_plugin r number p) plugin) ≡ true
on_holds test r number plugin p installed at f =
    ap (λ (n : ℕ). test (plugin_of (with_plugin r number p) n)) (sym (number_is number plugin at))
    ∙ ap test (same_place r number p (installed_within r number installed)) ∙ f

pub either_holds : (test : Plugin → Bool) (r : Plugins) (number plugin : ℕ) (p : Plugin) → is_installed r number ≡ true → 1 ≤ plugin
    → test (plugin_of r plugin) ≡ true → (test (plugin_of r number) ≡ true → test p ≡ true)
    → test (plugin_of (with_plugin r number p) plugin) ≡ true
either_holds test r number plugin p installed one old new =
    elim (cases_Bool (number == plugin)) [
      | inl at ↦ on_holds test r number plugin p installed at
          (new (ap (λ (n : ℕ). test (plugin_of r n)) (number_is number plugin at) ∙ old))
      | inr off ↦ off_holds test r number plugin p installed one off old
    ]

-- the endings of every plug-in go with its state
abbrev AllFit : Plugins → Type 0
AllFit r = (q : ℕ) → 1 ≤ q → EndingsFit (plugin_of r q)

abbrev placed_by : Plugins → Order → ℕ → Place → Place
placed_by r order plugin place = if registers r order plugin then Waiting else place

order_goes : (r : Plugins) (order : Order) (place : Place) (plugin : ℕ) → 1 ≤ plugin → allowed r order ≡ true
    → AllFit r → goes_in place (plugin_of r plugin) ≡ true
    → goes_in (placed_by r order plugin place) (plugin_of (after_order order r) plugin) ≡ true
order_goes r (Install spec) place plugin one is fit f =
    elim (cases_Bool (length r.plugins + 1 == plugin)) [
      | inl at ↦ rw at (ap (goes_in Waiting) (append_last r.plugins (fresh r spec) (plugin - 1)
          (omega (arith, number_is (length r.plugins + 1) plugin at))))
      | inr off ↦
          let apart : (plugin - 1) ≢ length r.plugins = λ e. grind (arith, nat_tests, off, e, one) in
          rw off (ap (goes_in place) (append_other r.plugins (fresh r spec) (plugin - 1) apart) ∙ f)
    ]
order_goes r (Register number spec) place plugin one is fit f =
    let a = register_admitted r number spec is in
    let now = with_set (plugin_of r number) spec in
    elim (cases_Bool (number == plugin)) [
      | inl at ↦ rw at (on_holds (goes_in Waiting) r number plugin now a.0 at refl)
      | inr off ↦ rw off (off_holds (goes_in place) r number plugin now a.0 one off f)
    ]
order_goes r (Reset number) place plugin one is fit f =
    let a = reset_admitted r number is in
    let p = plugin_of r number in
    either_holds (goes_in place) r number plugin (withdrawn p Resetting how.Reset r.gone) a.0 one f
    (resets (is_somewhere place) p.state number (length p.sets) p.endings (last_ending p) a.1
    (λ live. (fit number (installed_from r number a.0)).0 (ap is_live live)))
order_goes r (Uninstall number) place plugin one is fit f =
    let a = uninstall_admitted r number is in
    let p = plugin_of r number in
    either_holds (goes_in place) r number plugin (withdrawn p Leaving how.Uninstall r.gone) a.0 one f
    (uninstalls (is_somewhere place) p.state number (length p.sets) p.endings a.1
    (λ live. (fit number (installed_from r number a.0)).0 (ap is_live live)))

-- a set that is moved, of a plug-in that stays as it is
moved_goes : (p : Plugin) (moves : Bool) (f : Place → Place) (place : Place) → ((q : Place) → is_somewhere (f q) ≡ is_somewhere q)
    → goes_in place p ≡ true → goes_in (if moves then f place else place) p ≡ true
moved_goes p moves f place same g = ap (λ (there : Bool). goes there p.state (last_ending p)) (moved_stays moves f place same) ∙ g

tell_goes : (r : Plugins) (q : ℕ) (place : Place) (plugin : ℕ) → 1 ≤ plugin → is_complete r q ≡ true
    → goes_in place (plugin_of r plugin) ≡ true
    → goes_in (if q == plugin then Nowhere else place) (plugin_of (after_done q r) plugin) ≡ true
tell_goes r q place plugin one is f =
    let p = plugin_of r q in
    let now = record p { state = done_state p.state } in
    let c = complete r q 0 is in
    elim (cases_Bool (q == plugin)) [
      | inl at ↦
          let g : goes_in place p ≡ true = ap (λ (n : ℕ). goes_in place (plugin_of r n)) (number_is q plugin at) ∙ f in
          rw at (on_holds (goes_in Nowhere) r q plugin now c.0 at (tells (is_somewhere place) p.state (last_ending p) c.1 g))
      | inr off ↦ rw off (off_holds (goes_in place) r q plugin now c.0 one off f)
    ]

item_goes : (run : Run) (plugin h : ℕ) (x : Item) (past : List Item) → 1 ≤ plugin → Rule run x past
    → AllFit (plugins run past) → goes_in (place_of run plugin h past) (plugin_of (plugins run past) plugin) ≡ true
    → goes_in (place_of run plugin h (x ∷ past)) (plugin_of (plugins run (x ∷ past)) plugin) ≡ true
unfolding registry place_of
item_goes run plugin h (Step hart) past one rule fit f = f
item_goes run plugin h (Ordered origin order) past one rule fit f =
    order_goes (plugins run past) order (place_of run plugin h past) plugin one rule.allowed fit f
item_goes run plugin h (GaveBack hart number) past one rule fit f =
    let r = plugins run past in
    let p = plugin_of r number in
    let place = place_of run plugin h past in
    let moved = if (hart == h) && (number == plugin) then given_back place else place in
    let now : goes_in moved (plugin_of r plugin) ≡ true =
    moved_goes (plugin_of r plugin) ((hart == h) && (number == plugin)) given_back place given_stays f in
    either_holds (goes_in moved) r number plugin (record p { owing = slice_set p.owing hart false })
    (first_true (is_installed r number) _ (first_true (owes r hart number) _ rule)) one now (λ same. same)
item_goes run plugin h (Left hart) past one rule fit f =
    let r = plugins run past in
    let place = place_of run plugin h past in
    ap (goes_in (if hart == h then left place else place)) (left_at hart r.plugins (plugin - 1))
    ∙ moved_goes (plugin_of r plugin) (hart == h) left place left_stays f
item_goes run plugin h (Told party number) past one rule fit f =
    tell_goes (plugins run past) number (place_of run plugin h past) plugin one (first_true _ _ rule) f
item_goes run plugin h (Got hart number) past one rule fit f =
    moved_goes (plugin_of (plugins run past) plugin) ((hart == h) && (number == plugin)) got (place_of run plugin h past) got_stays f
item_goes run plugin h (Took party number) past one rule fit f =
    moved_goes (plugin_of (plugins run past) plugin) (number == plugin) taken (place_of run plugin h past) taken_stays f

opening_goes : (run : Run) (plugin h : ℕ) → goes_in (place_of run plugin h []) (plugin_of (plugins run []) plugin) ≡ true
unfolding registry place_of
opening_goes run plugin h = refl

sets_go : (run : Run) (plugin h : ℕ) (past : List Item) → 1 ≤ plugin → Legal run past
    → goes_in (place_of run plugin h past) (plugin_of (plugins run past) plugin) ≡ true
unfolding Legal
sets_go run plugin h [] one legal = opening_goes run plugin h
sets_go run plugin h (x ∷ past) one legal =
    item_goes run plugin h x past one legal.1 (λ q low. endings_go_with_states run q past low legal.0)
    (sets_go run plugin h past one legal.0)

-- So a set of a plug-in that closes is somewhere exactly where the plug-in withdraws it.

closing_goes : (there : Bool) (s : PlugState) (ending : Option How) → is_closing s ≡ true → goes there s ending ≡ true
    → withdraws s ending ≡ there
closing_goes there Live ending closing f = absurd (false≢true closing)
closing_goes there Idle ending closing f = absurd (false≢true closing)
closing_goes true Resetting ending closing f = refl
closing_goes false Resetting ending closing f = absurd (false≢true f)
closing_goes true Leaving None closing f = absurd (false≢true f)
closing_goes false Leaving None closing f = refl
closing_goes true Leaving (Some how.Reset) closing f = absurd (false≢true f)
closing_goes false Leaving (Some how.Reset) closing f = refl
closing_goes true Leaving (Some how.Uninstall) closing f = refl
closing_goes false Leaving (Some how.Uninstall) closing f = absurd (false≢true f)
closing_goes there Gone ending closing f = absurd (false≢true closing)

pub withdrawn_somewhere : (run : Run) (plugin h : ℕ) (past : List Item) → Legal run past → is_complete (plugins run past) plugin ≡ true
    → is_withdrawing (plugins run past) plugin ≡ is_somewhere (place_of run plugin h past)
withdrawn_somewhere run plugin h past legal is =
    let r = plugins run past in
    let p = plugin_of r plugin in
    let c = complete r plugin h is in
    ap (λ (b : Bool). b && withdraws p.state (last_ending p)) c.0
    ∙ closing_goes (is_somewhere (place_of run plugin h past)) p.state (last_ending p) c.1
    (sets_go run plugin h past (installed_from r plugin c.0) legal)
