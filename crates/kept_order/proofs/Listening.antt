-- Which sets of a hart listen while it steps.
use Rattle.std.proofs.Common.{◌≡◌, ◌&&◌, ◌+◌, ◌-◌, ◌<◌, ◌≤◌, ◌∙◌, ℕ, zero, suc, Bool, true, false, not, List}
use Rattle.std.proofs.Common.{[], Option, None, refl, sym, ap, arith, nat_lt, nat_le, inl, inr, length}
use Rattle.std.specs.Prelude.{if◌then◌else◌, slice_get, slice_index_or, is_some}
use Rattle.std.specs.List.{list_all, list_any, range_with_len}
use Rattle.std.specs.Cmp.Derive.{both_true}
use Rattle.std.proofs.lemmas.Bool.{cases_Bool, false≢true, lt-ltb, le-leb, leb-true, leb-false}
use Rattle.std.proofs.lemmas.List.Folds.{list_any_at}
use Rattle.std.proofs.lemmas.List.FromFn.{length-range_with_len, get_or-range_with_len}
use Rattle.std.proofs.lemmas.List.Sums.{AllPass-from_list_all}
use Rattle.std.proofs.lemmas.Option.{slice_get_past}
use Rattle.flat_model.specs.declared.plugins.Ask.{Ask}
use Rattle.flat_model.specs.declared.plugins.Ask.TheVariants.{Stay, Reset, Uninstall}
use Rattle.flat_model.specs.declared.plugins.SetSpec.{SetSpec}
use Rattle.flat_model.specs.declared.journals.How.{How}
use Rattle.flat_model.specs.declared.journals.Item.{Item}
use Rattle.flat_model.specs.declared.journals.PlugState.{PlugState}
use Rattle.flat_model.specs.declared.journals.PlugState.TheVariants.{Live, Idle, Resetting, Leaving, Gone}
use Rattle.flat_model.specs.Asks.{stays}
use Rattle.flat_model.specs.Log.{steps}
use Rattle.flat_model.specs.Registry.{Plugins, Plugin, no_plugin, plugin_of, is_installed, sets_of, is_hart, has_left, owes}
use Rattle.run_rules.specs.Guest.{Run, plugins}
use Rattle.run_rules.specs.Heard.{Progress, progress, is_live, is_listening, last_set, no_set, waiting}
use Rattle.run_rules.specs.Legal.{Legal, may_step, is_there, runs, owes_any, asks_nothing}
use Rattle.run_rules.specs.Places.{Place, Nowhere, Waiting, WithHart, Parked, Out, IsStateLog}
use Rattle.run_rules.specs.Places.{place_of, is_waiting, is_with_hart, takes_all, fits, owed_by}
use Rattle.run_rules.proofs.Endings.{endings_go_with_states}
use Rattle.run_rules.proofs.Fitting.{beyond, places_fit}
use Rattle.run_rules.proofs.Keeping.{gone_none}
use Rattle.run_rules.proofs.Turns.{first_true, rest_true}

-- what holds before steps of a hart
pub record MaySteps (run : Run) (h : ℕ) (past : List Item) : Type 0 where
  pub legal : Legal run past
  pub state_log : IsStateLog run past
  pub steps : may_step run h past ≡ true
  pub takes : takes_all run h past ≡ true

pub before_steps : (run : Run) (h n : ℕ) (past : List Item)
    → 0 < n → Legal run (steps h n past) → IsStateLog run (steps h n past) → MaySteps run h past
unfolding Legal IsStateLog
before_steps run h zero past some legal state = absurd (omega (arith, some))
before_steps run h (suc zero) past some legal state = record { legal = legal.0; state_log = state.0; steps = legal.1; takes = state.1 }
before_steps run h (suc (suc n)) past some legal state = before_steps run h (suc n) past (omega arith) legal.0 state.0

-- what holds of all numbers in a range
pub all_at : (test : ℕ → Bool) (n k : ℕ) → list_all test (range_with_len 1 n) ≡ true → 1 ≤ k → k ≤ n → test k ≡ true
all_at test n k every one most =
    let is = get_or-range_with_len 1 n (k - 1) 0 (omega (arith, one, most)) in
    ap test {x = k} (sym (is ∙ omega (arith, one)))
    ∙ AllPass-from_list_all test (range_with_len 1 n) every (k - 1) 0 (omega (arith, one, most, length-range_with_len 1 n))

pub none_at : (test : ℕ → Bool) (n k : ℕ) → list_any test (range_with_len 1 n) ≡ false → 1 ≤ k → k ≤ n → test k ≡ false
none_at test n k none one most =
    let is = get_or-range_with_len 1 n (k - 1) 0 (omega (arith, one, most)) in
    elim (cases_Bool (test k)) [
      | inr off ↦ off
      | inl at ↦ absurd (false≢true (sym none ∙ list_any_at test (range_with_len 1 n) (k - 1) 0
          (omega (arith, one, most, length-range_with_len 1 n)) (ap test (is ∙ omega (arith, one)) ∙ at)))
    ]

not_true : (b : Bool) → not b ≡ true → b ≡ false
not_true true is = absurd (false≢true is)
not_true false is = refl

pub installed : (r : Plugins) (plugin : ℕ) → 1 ≤ plugin → plugin ≤ length r.plugins → is_installed r plugin ≡ true
installed r plugin one most = both_true (lt-ltb 0 plugin one) (le-leb plugin (length r.plugins) most)

-- a hart that may step owes no plug-in
owes_none : (run : Run) (h plugin : ℕ) (past : List Item)
    → may_step run h past ≡ true → 1 ≤ plugin → plugin ≤ length (plugins run past).plugins
    → owed_by (plugins run past) plugin h ≡ false
owes_none run h plugin past may one most =
    let r = plugins run past in
    let none : owes_any run h past ≡ false =
    not_true _ (first_true _ _ (rest_true (runs run h past) _ (rest_true (is_there run h past) _ may))) in
    sym (ap (λ (b : Bool). b && owed_by r plugin h) (installed r plugin one most))
    ∙ none_at (λ p. owes r h p) (length r.plugins) plugin none one most

-- a plug-in whose set is with a hart that owes it nothing is Live
with_live : (place : Place) (s : PlugState) (gone : Bool) → is_with_hart place ≡ true → fits place s false gone ≡ true → is_live s ≡ true
with_live Nowhere s gone with f = absurd (false≢true with)
with_live Waiting s gone with f = absurd (false≢true with)
with_live Parked s gone with f = absurd (false≢true with)
with_live Out s gone with f = absurd (false≢true with)
with_live WithHart Live gone with f = refl
with_live WithHart Idle gone with f = absurd (false≢true f)
with_live WithHart Resetting gone with f = absurd (false≢true f)
with_live WithHart Leaving gone with f = absurd (false≢true f)
with_live WithHart Gone gone with f = absurd (false≢true f)

-- and the set of a Live plug-in is with the hart, where it neither waits for it nor is parked
live_with : (place : Place) (owes : Bool) → not (is_waiting place) ≡ true → fits place Live owes false ≡ true → is_with_hart place ≡ true
live_with Nowhere owes waits f = absurd (false≢true f)
live_with Waiting owes waits f = absurd (false≢true waits)
live_with WithHart owes waits f = refl
live_with Parked true waits f = absurd (false≢true f)
live_with Parked false waits f = absurd (false≢true f)
live_with Out owes waits f = absurd (false≢true f)

state_is : (s : PlugState) → is_live s ≡ true → s ≡ Live
state_is Live is = refl
state_is Idle is = absurd (false≢true is)
state_is Resetting is = absurd (false≢true is)
state_is Leaving is = absurd (false≢true is)
state_is Gone is = absurd (false≢true is)

pub live_set_is_there : (run : Run) (h plugin : ℕ) (past : List Item) → h < run.harts → MaySteps run h past
    → 1 ≤ plugin → plugin ≤ length (plugins run past).plugins → is_live (plugin_of (plugins run past) plugin).state ≡ true
    → is_with_hart (place_of run plugin h past) ≡ true
live_set_is_there run h plugin past low may one most live =
    let r = plugins run past in
    let place = place_of run plugin h past in
    let stays : has_left r h ≡ false = not_true _ (rest_true (is_hart r h) _ (first_true (is_there run h past) _ may.steps)) in
    live_with place (owed_by r plugin h)
    (all_at (λ p. not (is_waiting (place_of run p h past))) (length r.plugins) plugin may.takes one most)
    (ap (fits place Live (owed_by r plugin h)) (sym stays)
    ∙ ap (λ (s : PlugState). fits place s (owed_by r plugin h) (has_left r h)) (sym (state_is (plugin_of r plugin).state live))
    ∙ places_fit run plugin h past one low may.legal may.state_log)

pub set_is_live : (run : Run) (h plugin : ℕ) (past : List Item) → h < run.harts → MaySteps run h past
    → 1 ≤ plugin → plugin ≤ length (plugins run past).plugins → is_with_hart (place_of run plugin h past) ≡ true
    → is_live (plugin_of (plugins run past) plugin).state ≡ true
set_is_live run h plugin past low may one most with =
    let r = plugins run past in
    let place = place_of run plugin h past in
    let state = (plugin_of r plugin).state in
    with_live place state (has_left r h) with
    (ap (λ (o : Bool). fits place state o (has_left r h)) (sym (owes_none run h plugin past may.steps one most))
    ∙ places_fit run plugin h past one low may.legal may.state_log)

-- and a plug-in that has a set with a hart is installed
pub set_is_installed : (run : Run) (h plugin : ℕ) (past : List Item) → h < run.harts → MaySteps run h past
    → 1 ≤ plugin → is_with_hart (place_of run plugin h past) ≡ true → plugin ≤ length (plugins run past).plugins
set_is_installed run h plugin past low may one with =
    let r = plugins run past in
    let place = place_of run plugin h past in
    elim (cases_Bool (nat_le plugin (length r.plugins))) [
      | inl near ↦ leb-true plugin (length r.plugins) near
      | inr far ↦
          let none : plugin_of r plugin ≡ no_plugin =
          beyond r.plugins (plugin - 1) (omega (arith, leb-false plugin (length r.plugins) far)) in
          let off : is_with_hart place ≡ false =
          gone_none place (owed_by r plugin h) (has_left r h)
          (ap (λ (p : Plugin). fits place p.state (owed_by r plugin h) (has_left r h)) (sym none)
          ∙ places_fit run plugin h past one low may.legal may.state_log) in
          absurd (false≢true (sym off ∙ with))
    ]

-- the last set of a Live plug-in listens
abbrev listens : Bool → List SetSpec → List How → Bool
listens there sets endings =
    let own = if there then sets else [] in
    nat_lt (length own - 1) (length own) && not (is_some (if there then slice_get endings (length own - 1) else None))

listens_so : (there : Bool) (sets : List SetSpec) (endings : List How) → there ≡ true → length endings + 1 ≡ length sets
    → listens there sets endings ≡ true
listens_so false sets endings is one = absurd (false≢true is)
listens_so true sets endings is one =
    both_true (lt-ltb (length sets - 1) (length sets) (omega (arith, one)))
    (ap (λ (o : Option How). not (is_some o)) (slice_get_past endings (length sets - 1) (omega (arith, one))))

pub last_set_listens : (run : Run) (plugin : ℕ) (past : List Item)
    → Legal run past → 1 ≤ plugin → plugin ≤ length (plugins run past).plugins
    → is_live (plugin_of (plugins run past) plugin).state ≡ true
    → is_listening (plugins run past) plugin (last_set (plugins run past) plugin) ≡ true
last_set_listens run plugin past legal one most live =
    let r = plugins run past in
    let p = plugin_of r plugin in
    listens_so (is_installed r plugin) p.sets p.endings (installed r plugin one most)
    ((endings_go_with_states run plugin past one legal).0 live)

-- what the set that a plug-in registered last has made of hart h's events, where the plug-ins are these
abbrev pub last_progress : Run → ℕ → ℕ → List Item → Plugins → Progress
last_progress run plugin h log r =
    progress run (slice_index_or (sets_of r plugin) (last_set r plugin) no_set) plugin (last_set r plugin) h log

abbrev waits_in : Run → ℕ → ℕ → List Item → Plugins → Ask
waits_in run plugin h log r =
    if is_installed r plugin && is_live (plugin_of r plugin).state then (last_progress run plugin h log r).walk.asked else Stay

stay_is : (a : Ask) → stays a ≡ true → a ≡ Stay
stay_is Stay is = refl
stay_is Reset is = absurd (false≢true is)
stay_is Uninstall is = absurd (false≢true is)

-- what a Live plug-in waits for is what its set asked for
pub waits_for : (run : Run) (h plugin : ℕ) (past log : List Item) → 1 ≤ plugin → plugin ≤ length (plugins run past).plugins
    → is_live (plugin_of (plugins run past) plugin).state ≡ true → plugins run log ≡ plugins run past
    → waiting run plugin h log ≡ (last_progress run plugin h log (plugins run past)).walk.asked
waits_for run h plugin past log one most live same =
    let r = plugins run past in
    let asked = (last_progress run plugin h log r).walk.asked in
    ap (waits_in run plugin h log) same
    ∙ ap (λ (b : Bool). if b then asked else Stay) (both_true (installed r plugin one most) live)

-- and a plug-in that has no set with a hart waits for nothing there
pub waits_for_none : (run : Run) (h plugin : ℕ) (past log : List Item) → h < run.harts → MaySteps run h past → 1 ≤ plugin
    → is_with_hart (place_of run plugin h past) ≡ false → plugins run log ≡ plugins run past → waiting run plugin h log ≡ Stay
waits_for_none run h plugin past log low may one without same =
    let r = plugins run past in
    let asked = (last_progress run plugin h log r).walk.asked in
    let there = is_installed r plugin in
    let live = is_live (plugin_of r plugin).state in
    ap (waits_in run plugin h log) same
    ∙ elim (cases_Bool (there && live)) [
      | inr off ↦ ap (λ (b : Bool). if b then asked else Stay) off
      | inl is ↦
          let most : plugin ≤ length r.plugins =
          leb-true plugin (length r.plugins) (rest_true (nat_lt 0 plugin) _ (first_true there live is)) in
          absurd (false≢true (sym without ∙ live_set_is_there run h plugin past low may one most (rest_true there live is)))
    ]

pub asked_none : (run : Run) (h plugin : ℕ) (past : List Item) → asks_nothing run h past ≡ true
    → 1 ≤ plugin → plugin ≤ length (plugins run past).plugins → is_live (plugin_of (plugins run past) plugin).state ≡ true
    → (last_progress run plugin h past (plugins run past)).walk.asked ≡ Stay
asked_none run h plugin past none one most live =
    sym (waits_for run h plugin past past one most live refl)
    ∙ stay_is (waiting run plugin h past)
    (all_at (λ p. stays (waiting run p h past)) (length (plugins run past).plugins) plugin none one most)
