-- What holds of the rules of journals, for those who keep a log that goes on.
use Rattle.std.specs.Prelude.{◌≡◌, ℕ, ◌+◌, ◌==◌, ◌<◌, ◌≤◌, Bool, true, false, List, [], ◌∷◌, ◌++◌, take}
use Rattle.std.specs.Prelude.{Some, None, if◌then◌else◌, length}
use Rattle.std.specs.List.Sorted.{IsNonDecreasingBy}
use Rattle.flat_model.specs.declared.plugins.SetSpec.{SetSpec}
use Rattle.flat_model.specs.declared.journals.Item.{Item}
use Rattle.flat_model.specs.declared.journals.Item.TheVariants.{Step, Ordered, GaveBack, Left, Told, Got, Took}
use Rattle.flat_model.specs.declared.limits.TheConstants.{BLOCK_WORDS}
use Rattle.flat_model.specs.declared.journals.Mode.{Mode}
use Rattle.flat_model.specs.declared.journals.Order.{Order}
use Rattle.flat_model.specs.declared.journals.Order.TheVariants.{Install, Register, Reset, Uninstall}
use Rattle.flat_model.specs.Log.{steps, total_steps, journaled, party}
use Rattle.flat_model.specs.Plan.{Planned}
use Rattle.flat_model.specs.World.{Machine, Start}
use Rattle.flat_model.specs.Worlds.{world, hart_of}
use Rattle.flat_model.specs.Registry.{Plugin, plugin_of, sets_of}
use Rattle.run_rules.specs.Guest.{Run, run_of, plugins}
use Rattle.run_rules.specs.Heard.{progress, opening_progress, is_live, is_listening, last_set}
use Rattle.run_rules.specs.Due.{Line, owed_line, is_start, start_orders, missing_install}
use Rattle.run_rules.specs.Places.{IsStateLog, place_of, is_with_hart, fits_in}
use Rattle.run_rules.specs.Legal.{Legal, is_there, owes_any, asks_nothing, passes_nothing_by, runs}

-- whether an item is a step of hart h
abbrev pub steps_by : ℕ → Item → Bool
steps_by h (Step hart) = hart == h
steps_by h (Ordered origin order) = false
steps_by h (GaveBack hart plugin) = false
steps_by h (Left hart) = false
steps_by h (Told party plugin) = false
steps_by h (Got hart plugin) = false
steps_by h (Took party plugin) = false

-- items none of which is a step of hart h
abbrev pub NoneSteps : ℕ → List Item → Type 0
NoneSteps h [] = Unit {0}
NoneSteps h (x ∷ xs) = (steps_by h x ≡ false) × NoneSteps h xs

-- such items change nothing of what a set has made of the hart's events
abbrev pub HearsByStepsAlone : Type 0
HearsByStepsAlone = (run : Run) (spec : SetSpec) (plugin set h : ℕ) (more past : List Item)
    → NoneSteps h more → progress run spec plugin set h (more ++ past) ≡ progress run spec plugin set h past

-- A Turn of up to 512 steps after a legal log that passes nothing by keeps the rules: hart h is there, owes no Back and asks nothing, and runs
-- before each of the steps.
pub record MayTurn (run : Run) (h n : ℕ) (past : List Item) : Type 0 where
  pub legal : Legal run past
  pub is_there : is_there run h past ≡ true
  pub owes_none : owes_any run h past ≡ false
  pub asks_nothing : asks_nothing run h past ≡ true
  pub passes_nothing_by : passes_nothing_by run past ≡ true
  pub runs : (k : ℕ) → k < n → runs run h (steps h k past) ≡ true

abbrev pub TurnsAreLegal : Type 0
TurnsAreLegal = (run : Run) (h n : ℕ) (past : List Item) → n ≤ BLOCK_WORDS → MayTurn run h n past → Legal run (steps h n past)

-- a line of the script that falls due in a Turn of up to 512 steps, which began where nothing was passed by, stands in time behind it
abbrev pub LinesAreInTime : Type 0
LinesAreInTime = (run : Run) (h n : ℕ) (past : List Item) (l : Line)
    → IsNonDecreasingBy (λ t. t.when) run.plan.script → n ≤ BLOCK_WORDS → passes_nothing_by run past ≡ true
    → owed_line run (steps h n past) ≡ Some l → total_steps (steps h n past) < l.timed.when + BLOCK_WORDS

-- a hart that has its start is moved on by its own steps alone: other items change neither it nor its start
pub record IsUntouched (m : Machine) (mode : Mode) (h : ℕ) (more past : List Item) : Type 0 where
  pub hart : hart_of m mode (more ++ past) h ≡ hart_of m mode past h
  pub start : (world m mode (more ++ past)).shared.starts h ≡ (world m mode past).shared.starts h

abbrev pub HartsMoveByTheirSteps : Type 0
HartsMoveByTheirSteps = (m : Machine) (mode : Mode) (h : ℕ) (more past : List Item) (start : Start)
    → NoneSteps h more → (world m mode past).shared.starts h ≡ Some start → IsUntouched m mode h more past

-- The installs of the start.

-- the sets that a log's start orders install, in order
abbrev pub installed_by : Order → List SetSpec
installed_by (Install spec) = spec ∷ []
installed_by (Register plugin spec) = []
installed_by (Reset plugin) = []
installed_by (Uninstall plugin) = []

unfoldable pub opening_sets : List Item → List SetSpec
opening_sets [] = []
opening_sets (Step hart ∷ past) = opening_sets past
opening_sets (Ordered origin order ∷ past) = if is_start origin then opening_sets past ++ installed_by order else opening_sets past
opening_sets (GaveBack hart plugin ∷ past) = opening_sets past
opening_sets (Left hart ∷ past) = opening_sets past
opening_sets (Told party plugin ∷ past) = opening_sets past
opening_sets (Got hart plugin ∷ past) = opening_sets past
opening_sets (Took party plugin ∷ past) = opening_sets past

-- a legal log opens with the plan's first installs, in order
abbrev pub OpensAsPlanned : Type 0
OpensAsPlanned = (run : Run) (past : List Item) → Legal run past → opening_sets past ≡ take (start_orders past) run.plan.installs

-- and keeps them as it goes on, once none is missing
abbrev pub KeepsItsOpening : Type 0
KeepsItsOpening = (run : Run) (more past : List Item) → Legal run (more ++ past) → missing_install run past ≡ None
    → (missing_install run (more ++ past) ≡ None) × (opening_sets (more ++ past) ≡ opening_sets past)

-- Sets that are registered later.

-- a set that a log hasn't registered has made nothing of any event
abbrev pub LaterSetsHearNothing : Type 0
LaterSetsHearNothing = (run : Run) (spec : SetSpec) (plugin set h : ℕ) (past : List Item)
    → length (sets_of (plugins run past) plugin) ≤ set → progress run spec plugin set h past ≡ opening_progress spec

-- The log of the shared state, and its journal.

-- what the rules make of a state's log is what they make of its journal, in which no Got and no Took stand
pub record IsOfItsJournal (m : Machine) (mode : Mode) (plan : Planned) (past : List Item) : Type 0 where
  pub world : world m mode (journaled past) ≡ world m mode past
  pub plugins : plugins (run_of m mode plan) (journaled past) ≡ plugins (run_of m mode plan) past
  pub progress : (spec : SetSpec) (plugin set h : ℕ)
      → progress (run_of m mode plan) spec plugin set h (journaled past) ≡ progress (run_of m mode plan) spec plugin set h past
  pub legal : Legal (run_of m mode plan) past → Legal (run_of m mode plan) (journaled past)

abbrev pub LogsAreOfTheirJournals : Type 0
LogsAreOfTheirJournals = (m : Machine) (mode : Mode) (plan : Planned) (past : List Item) → IsOfItsJournal m mode plan past

-- Where sets are.

-- in a legal log of the state, the place of each plug-in's last set for each hart goes with what the registry says
abbrev pub PlacesFit : Type 0
PlacesFit = (run : Run) (plugin h : ℕ) (past : List Item) → 1 ≤ plugin → h < run.harts → Legal run past → IsStateLog run past
    → fits_in (plugins run past) (place_of run plugin h past) plugin h ≡ true

-- items of other parties than hart h
abbrev pub AreOfOthers : ℕ → List Item → Type 0
AreOfOthers h [] = Unit {0}
AreOfOthers h (x ∷ xs) = ((party x == h) ≡ false) × AreOfOthers h xs

-- the set of a plug-in that a hart has, in a log that goes on: it is still with the hart, it is the same, and it has heard nothing more
pub record KeepsSet (run : Run) (plugin h : ℕ) (past now : List Item) : Type 0 where
  pub there : is_with_hart (place_of run plugin h now) ≡ is_with_hart (place_of run plugin h past)
  pub sets : is_with_hart (place_of run plugin h past) ≡ true → sets_of (plugins run now) plugin ≡ sets_of (plugins run past) plugin
  pub heard : (spec : SetSpec) (set : ℕ) → progress run spec plugin set h now ≡ progress run spec plugin set h past

-- items of other parties neither bring a hart a set nor take one from it, and let none hear
abbrev pub OthersLeaveSetsAlone : Type 0
OthersLeaveSetsAlone = (run : Run) (plugin h : ℕ) (more past : List Item) → 1 ≤ plugin → h < run.harts → AreOfOthers h more
    → Legal run (more ++ past) → IsStateLog run (more ++ past) → KeepsSet run plugin h past (more ++ past)

-- The sets of a plug-in have each ended but for the last of a plug-in that is Live.

abbrev pub EndingsFit : Plugin → Type 0
EndingsFit p =
    (is_live p.state ≡ true → length p.endings + 1 ≡ length p.sets) × (is_live p.state ≡ false → length p.endings ≡ length p.sets)

abbrev pub EndingsGoWithStates : Type 0
EndingsGoWithStates = (run : Run) (plugin : ℕ) (past : List Item) → 1 ≤ plugin → Legal run past → EndingsFit (plugin_of (plugins run past) plugin)

-- so the set that a plug-in registered last listens exactly while the plug-in is Live
abbrev pub LastSetsListenWhileLive : Type 0
LastSetsListenWhileLive = (run : Run) (plugin : ℕ) (past : List Item) → 1 ≤ plugin → Legal run past
    → is_live (plugin_of (plugins run past) plugin).state ≡ false
    → is_listening (plugins run past) plugin (last_set (plugins run past) plugin) ≡ false
