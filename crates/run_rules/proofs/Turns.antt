-- A Turn keeps the rules.
use Rattle.std.proofs.Common.{◌≡◌, ◌==◌, ◌&&◌, ◌||◌, ◌+◌, ◌<◌, ◌≤◌, ◌⊎◌, ◌∷◌, [], ◌∙◌, ℕ, zero, suc, Bool, true, false, not}
use Rattle.std.proofs.Common.{List, refl, sym, ap, subst, arith, nat_lt, inl, inr}
use Rattle.std.specs.List.{list_all, list_any}
use Rattle.std.specs.Prelude.{if◌then◌else◌, slice_index_or}
use Rattle.std.proofs.lemmas.Bool.{lt-ltb, cases_Bool, false≢true, or_left, or_right}
use Rattle.std.specs.Cmp.Derive.{both_true}
use Rattle.std.proofs.lemmas.Bool.Decides.{nat_tests}
use Rattle.flat_model.specs.declared.plugins.Ask.{Ask}
use Rattle.flat_model.specs.declared.plugins.Ask.TheVariants.{Stay}
use Rattle.flat_model.specs.declared.plugins.SetSpec.{SetSpec}
use Rattle.flat_model.specs.declared.journals.Item.{Item}
use Rattle.flat_model.specs.declared.limits.TheConstants.{BLOCK_WORDS}
use Rattle.flat_model.specs.Asks.{stays}
use Rattle.flat_model.specs.Log.{steps}
use Rattle.flat_model.specs.Registry.{Plugins, registry, plugin_of, is_installed, sets_of, is_hart, has_left, owes}
use Rattle.run_rules.specs.Guest.{Run, plugins}
use Rattle.run_rules.specs.Heard.{Progress, progress, progressed, is_listening, is_live, last_set, waiting, steps_since, no_set}
use Rattle.run_rules.specs.Due.{turn_length, is_turning}
use Rattle.run_rules.specs.Legal.{Legal, may_step, is_there, owes_any, passes_nothing_by, goes_on_in_time, numbers}
use Rattle.run_rules.specs.Laws.{MayTurn, TurnsAreLegal}

-- steps change no plug-in
pub plugins_keep : (run : Run) (h n : ℕ) (past : List Item) → plugins run (steps h n past) ≡ plugins run past
unfolding registry
plugins_keep run h zero past = refl
plugins_keep run h (suc n) past = plugins_keep run h n past

pub same : (h : ℕ) → (h == h) ≡ true
same h = grind (arith, nat_tests)

-- the Turn that they make
pub turn_grows : (h n : ℕ) (past : List Item) → n ≤ turn_length h (steps h n past)
unfolding turn_length
turn_grows h zero past = omega arith
turn_grows h (suc n) past = rw (same h) (omega (arith, turn_grows h n past))

-- an ask that is made in the Turn's steps was made within them
abbrev AsksWithin : Progress → ℕ → Type 0
AsksWithin p n = (stays p.walk.asked ≡ true) ⊎ (p.since + 1 ≤ n)

later : (p : Progress) (n : ℕ) → AsksWithin p n → AsksWithin p (suc n)
later p n (inl none) = inl none
later p n (inr few) = inr (omega (arith, few))

next_within : (b : Bool) (old now : Progress) (n : ℕ)
    → stays old.walk.asked ≡ b → now.since ≡ (if b then 0 else old.since + 1) → AsksWithin old n → AsksWithin now (suc n)
next_within true old now n is since within = inr (omega (arith, since))
next_within false old now n is since (inl none) = absurd (false≢true (sym is ∙ none))
next_within false old now n is since (inr few) = inr (omega (arith, few, since))

-- a set whose asks lie within the Turn
progress_within : (run : Run) (spec : SetSpec) (plugin set h n : ℕ) (past : List Item)
    → AsksWithin (progress run spec plugin set h (steps h n past)) n
    → AsksWithin (progress run spec plugin set h (steps h (suc n) past)) (suc n)
unfolding progress
progress_within run spec plugin set h n past within =
    let old = progress run spec plugin set h (steps h n past) in
    let r = plugins run (steps h n past) in
    let now = progressed run.guest.classes spec.subs (run.guest.next_events (steps h n past) h) old in
    elim (cases_Bool (is_listening r plugin set)) [
      | inl is ↦ rw (same h) (rw is (next_within (stays old.walk.asked) old now n refl refl within))
      | inr is ↦ rw (same h) (rw is (later old n within))
    ]

-- what the set registered last has made of hart h's events, where the plug-ins are these
abbrev last_progress : Run → ℕ → ℕ → List Item → Plugins → Progress
last_progress run plugin h past r =
    progress run (slice_index_or (sets_of r plugin) (last_set r plugin) no_set) plugin (last_set r plugin) h past

abbrev waits_in : Run → ℕ → ℕ → List Item → Plugins → Ask
waits_in run plugin h past r =
    if is_installed r plugin && is_live (plugin_of r plugin).state then (last_progress run plugin h past r).walk.asked else Stay

-- an ask that waits after n steps was made within them, where none waited before
all_within : (run : Run) (plugin h n : ℕ) (past : List Item) (r : Plugins)
    → stays (last_progress run plugin h past r).walk.asked ≡ true → AsksWithin (last_progress run plugin h (steps h n past) r) n
all_within run plugin h zero past r none = inl none
all_within run plugin h (suc n) past r none =
    progress_within run (slice_index_or (sets_of r plugin) (last_set r plugin) no_set) plugin (last_set r plugin) h n past
    (all_within run plugin h n past r none)

abbrev WaitsWithin : Run → ℕ → ℕ → ℕ → List Item → Plugins → Type 0
WaitsWithin run plugin h n past r = (stays (waits_in run plugin h past r) ≡ true) ⊎ ((last_progress run plugin h past r).since + 1 ≤ n)

waits_within : (run : Run) (plugin h n : ℕ) (past : List Item) (r : Plugins)
    → stays (waits_in run plugin h past r) ≡ true → WaitsWithin run plugin h n (steps h n past) r
waits_within run plugin h n past r none =
    elim (cases_Bool (is_installed r plugin && is_live (plugin_of r plugin).state)) [
      | inr is ↦ inl (rw is refl)
      | inl is ↦ elim (all_within run plugin h n past r (sym (ap (λ (b : Bool). stays (if b then (last_progress run plugin h past r).walk.asked else Stay)) is) ∙ none)) [
        | inl none ↦ inl (ap (λ (b : Bool). stays (if b then (last_progress run plugin h (steps h n past) r).walk.asked else Stay)) is ∙ none)
        | inr few ↦ inr few
      ]
    ]

-- so the Turn goes on in time
goes_on : (run : Run) (plugin h n : ℕ) (past : List Item)
    → n < BLOCK_WORDS → stays (waiting run plugin h past) ≡ true → goes_on_in_time run h (steps h n past) plugin ≡ true
goes_on run plugin h n past few none =
    let now = steps h n past in
    let within : WaitsWithin run plugin h n now (plugins run now) =
    subst (λ (r : Plugins). WaitsWithin run plugin h n now r) (sym (plugins_keep run h n past)) (waits_within run plugin h n past (plugins run past) none) in
    let since = steps_since run plugin h now in
    let turn = turn_length h now in
    elim within [
      | inl none ↦ or_left (stays (waiting run plugin h now)) (nat_lt since turn && nat_lt (since + 1) BLOCK_WORDS) none
      | inr soon ↦
          let first : since < turn = omega (arith, soon, turn_grows h n past) in
          let second : since + 1 < BLOCK_WORDS = omega (arith, soon, few) in
          or_right (stays (waiting run plugin h now)) (nat_lt since turn && nat_lt (since + 1) BLOCK_WORDS)
          (both_true (lt-ltb since turn first) (lt-ltb (since + 1) BLOCK_WORDS second))
    ]

pub first_true : (x y : Bool) → (x && y) ≡ true → x ≡ true
first_true true y e = refl
first_true false y e = e

pub rest_true : (x y : Bool) → (x && y) ≡ true → y ≡ true
rest_true true y e = e
rest_true false y e = absurd (false≢true e)

-- for each of the plug-ins
all_go_on : (run : Run) (h n : ℕ) (past : List Item) (plugins : List ℕ)
    → n < BLOCK_WORDS → list_all (λ plugin. stays (waiting run plugin h past)) plugins ≡ true
    → list_all (goes_on_in_time run h (steps h n past)) plugins ≡ true
all_go_on run h n past [] few none = refl
all_go_on run h n past (plugin ∷ plugins) few none =
    both_true (goes_on run plugin h n past few (first_true _ _ none)) (all_go_on run h n past plugins few (rest_true _ _ none))

-- a Turn begins where nothing is passed by, and goes on
turns : (run : Run) (h n : ℕ) (past : List Item)
    → passes_nothing_by run past ≡ true → (is_turning h (steps h n past) || passes_nothing_by run (steps h n past)) ≡ true
turns run h zero past none = or_right (is_turning h past) _ none
turns run h (suc n) past none =
    or_left (is_turning h (steps h (suc n) past)) _ (lt-ltb 0 (turn_length h (steps h (suc n) past)) (omega (arith, turn_grows h (suc n) past)))

there_still : (run : Run) (h n : ℕ) (past : List Item) → is_there run h past ≡ true → is_there run h (steps h n past) ≡ true
there_still run h n past is = ap (λ (r : Plugins). is_hart r h && not (has_left r h)) (plugins_keep run h n past) ∙ is

owes_still : (run : Run) (h n : ℕ) (past : List Item) → owes_any run h past ≡ false → owes_any run h (steps h n past) ≡ false
owes_still run h n past none = ap (λ (r : Plugins). list_any (λ plugin. owes r h plugin) (numbers r)) (plugins_keep run h n past) ∙ none

steps_may : (run : Run) (h n m : ℕ) (past : List Item) → m < n → n ≤ BLOCK_WORDS → MayTurn run h n past → may_step run h (steps h m past) ≡ true
steps_may run h n m past lt few may =
    let now = steps h m past in
    let every : list_all (goes_on_in_time run h now) (numbers (plugins run now)) ≡ true =
    ap (λ (r : Plugins). list_all (goes_on_in_time run h now) (numbers r)) (plugins_keep run h m past)
    ∙ all_go_on run h m past (numbers (plugins run past)) (omega (arith, lt, few)) may.asks_nothing in
    both_true (there_still run h m past may.is_there) (both_true (may.runs m lt) (both_true (ap not (owes_still run h m past may.owes_none))
    (both_true (turns run h m past may.passes_nothing_by) every)))

turn_to : (run : Run) (h n m : ℕ) (past : List Item) → m ≤ n → n ≤ BLOCK_WORDS → MayTurn run h n past → Legal run (steps h m past)
unfolding Legal
turn_to run h n zero past le few may = may.legal
turn_to run h n (suc m) past le few may = (turn_to run h n m past (omega (arith, le)) few may, steps_may run h n m past (omega (arith, le)) few may)

pub turns_are_legal : TurnsAreLegal
turns_are_legal run h n past few may = turn_to run h n n past (omega arith) few may
