-- What the sets of a hart have made of its steps, in the words of delivery.
use Rattle.std.specs.Prelude.{◌≡◌, ◌≤◌, ◌<◌, ℕ, true, if◌then◌else◌, List, Option, Some, None}
use Rattle.std.specs.List.{filter_map}
use Rattle.flat_model.specs.declared.plugins.Ask.{Ask}
use Rattle.flat_model.specs.declared.plugins.Ask.TheVariants.{Stay}
use Rattle.flat_model.specs.declared.plugins.SetSpec.{SetSpec}
use Rattle.flat_model.specs.declared.journals.Item.{Item}
use Rattle.flat_model.specs.Log.{steps}
use Rattle.flat_model.specs.Step.{steps_of}
use Rattle.flat_model.specs.Worlds.{world, hart_of}
use Rattle.event_walk.specs.Matches.{classes_of}
use Rattle.watcher_api.specs.Attachment.{Attachment}
use Rattle.watcher_api.specs.Acting.{acts_of, ask_of, walks_of, IsAbsent}
use Rattle.instr_lists.specs.Delivery.{no_asks, acts_with, each_walks}
use Rattle.run_rules.specs.Guest.{Run, plugins}
use Rattle.run_rules.specs.Heard.{set_at, last_set, waiting}
use Rattle.run_rules.specs.Legal.{Legal, numbers, asks_nothing}
use Rattle.run_rules.specs.Places.{IsStateLog, place_of, is_with_hart}
use Rattle.run_order.specs.Sets.{sets_for}
use Rattle.run_order.specs.InOrder.{Task, task_run}

-- the sets that hart h has, by their plug-ins' numbers, with their filters
abbrev pub spec_at : Run → ℕ → List Item → ℕ → Option (ℕ × SetSpec)
spec_at run h past plugin =
    if is_with_hart (place_of run plugin h past) then Some (plugin, set_at run plugin (last_set (plugins run past) plugin) past) else None

abbrev pub specs_for : Run → ℕ → List Item → List (ℕ × SetSpec)
specs_for run h past = filter_map (spec_at run h past) (numbers (plugins run past))

-- they have the acts of the attached sets
abbrev pub SpecsAreOfSets : Type 0
SpecsAreOfSets = (run : Run) (h : ℕ) (past : List Item) → acts_of (sets_for is_with_hart run h past) ≡ acts_with (specs_for run h past)

-- sets to which the events of a Turn were delivered are those that the log with this Turn tells, and they asked for what waits there
pub record HaveHeard (run : Run) (h : ℕ) (past : List Item) (attached : List Attachment) (asked : List Ask) : Type 0 where
  pub sets : attached ≡ sets_for is_with_hart run h past
  pub asks : (plugin : ℕ) → 1 ≤ plugin → plugin ≤ 8 → is_with_hart (place_of run plugin h past) ≡ true
      → ask_of plugin asked ≡ waiting run plugin h past

abbrev pub TurnsAreHeard : Type 0
TurnsAreHeard = (t : Task) (h n : ℕ) (past : List Item) (sets : List Attachment) (asks : List Ask)
    → h < t.machine.harts → 0 < n → Legal (task_run t) (steps h n past) → IsStateLog (task_run t) (steps h n past)
    → asks_nothing (task_run t) h past ≡ true
    → acts_of sets ≡ acts_of (sets_for is_with_hart (task_run t) h past)
    → walks_of asks sets ≡ each_walks (classes_of t.machine.image) (specs_for (task_run t) h past)
    (steps_of t.machine h n (hart_of t.machine t.mode past h) (world t.machine t.mode past).shared).events
    (walks_of no_asks (sets_for is_with_hart (task_run t) h past))
    → HaveHeard (task_run t) h (steps h n past) sets asks

-- and where the plug-ins whose sets aren't attached asked for nothing, the asks are what waits there
abbrev pub AsksWait : Type 0
AsksWait = (run : Run) (h n : ℕ) (past : List Item) (sets : List Attachment) (asks : List Ask)
    → h < run.harts → 0 < n → Legal run (steps h n past) → IsStateLog run (steps h n past) → HaveHeard run h (steps h n past) sets asks
    → ((plugin : ℕ) → 1 ≤ plugin → IsAbsent plugin (sets_for is_with_hart run h past) → ask_of plugin asks ≡ Stay)
    → (plugin : ℕ) → 1 ≤ plugin → plugin ≤ 8 → ask_of plugin asks ≡ waiting run plugin h (steps h n past)

-- a Turn brings a hart no set and takes none
abbrev pub TurnsMoveNoSets : Type 0
TurnsMoveNoSets = (run : Run) (h n : ℕ) (past : List Item) → specs_for run h (steps h n past) ≡ specs_for run h past
