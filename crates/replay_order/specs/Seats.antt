-- What a replay holds of a hart that hasn't left, and when that is what the log says.
use Rattle.std.specs.Prelude.{◌≡◌, ◌≤◌, ◌<◌, ◌-◌, ◌++◌, ℕ, true, false, if◌then◌else◌, min, List, Option, Some, None, slice_index_or}
use Rattle.flat_model.specs.declared.plugins.Ask.{Ask}
use Rattle.flat_model.specs.declared.plugins.Ask.TheVariants.{Stay}
use Rattle.flat_model.specs.declared.plugins.SetSpec.{SetSpec}
use Rattle.flat_model.specs.declared.journals.Item.{Item}
use Rattle.flat_model.specs.declared.limits.TheConstants.{BLOCK_WORDS}
use Rattle.flat_model.specs.Asks.{stays}
use Rattle.flat_model.specs.Registry.{plugin_of}
use Rattle.flat_model.specs.World.{HartState, Start, started_hart}
use Rattle.flat_model.specs.Worlds.{world, hart_of}
use Rattle.watcher_api.specs.Attachment.{Attachment}
use Rattle.watcher_api.specs.Acting.{ask_of}
use Rattle.run_rules.specs.Guest.{plugins}
use Rattle.run_rules.specs.Heard.{is_live, waiting, steps_since}
use Rattle.run_rules.specs.Legal.{Legal, is_there}
use Rattle.run_rules.specs.Places.{IsStateLog, place_of, is_with_hart}
use Rattle.run_rules.specs.Laws.{AreOfOthers}
use Rattle.run_order.specs.Sets.{sets_for}
use Rattle.run_order.specs.InOrder.{Task, task_run}
use Rattle.kept_order.specs.Hearing.{specs_for}

-- a hart as it was when it was looked at last; its sets and their filters; and for each plug-in what a box of its set asked for
-- first, with how many steps the hart has made since, of which 512 count at most
pub record Seating : Type 0 where
  pub hart : HartState
  pub sets : List Attachment
  pub filters : List (ℕ × SetSpec)
  pub asks : List Ask
  pub since : List ℕ

-- a hart that was parked, once it has this start
abbrev pub woken : ℕ → ℕ → HartState → Option Start → HartState
woken h harts hart None = hart
woken h harts hart (Some start) = if hart.parked then started_hart h harts start else hart

pub record Sits (t : Task) (h : ℕ) (past : List Item) (s : Seating) : Type 0 where
  pub there : is_there (task_run t) h past ≡ true
  pub hart : hart_of t.machine t.mode past h ≡ woken h t.machine.harts s.hart ((world t.machine t.mode past).shared.starts h)
  pub below : s.hart.ending ≡ None → s.hart.steps < t.machine.limit
  pub sets : s.sets ≡ sets_for is_with_hart (task_run t) h past
  pub filters : s.filters ≡ specs_for (task_run t) h past
  pub quiet : (p : ℕ) → 1 ≤ p → p ≤ 8 → is_with_hart (place_of (task_run t) p h past) ≡ false → ask_of p s.asks ≡ Stay
  pub asks : (p : ℕ) → 1 ≤ p → p ≤ 8 → is_with_hart (place_of (task_run t) p h past) ≡ true
      → is_live (plugin_of (plugins (task_run t) past) p).state ≡ true → ask_of p s.asks ≡ waiting (task_run t) p h past
  pub since : (p : ℕ) → 1 ≤ p → p ≤ 8 → is_with_hart (place_of (task_run t) p h past) ≡ true
      → is_live (plugin_of (plugins (task_run t) past) p).state ≡ true → stays (waiting (task_run t) p h past) ≡ false
      → slice_index_or s.since (p - 1) 0 ≡ min (steps_since (task_run t) p h past) BLOCK_WORDS

-- what a Live plug-in asks for on the hart is what the seat has noted
abbrev pub AsksAreNoted : Type 0
AsksAreNoted = (t : Task) (h p : ℕ) (past : List Item) (s : Seating) → 1 ≤ p → h < t.machine.harts
    → Legal (task_run t) past → IsStateLog (task_run t) past → Sits t h past s
    → is_live (plugin_of (plugins (task_run t) past) p).state ≡ true
    → (ask_of p s.asks ≡ waiting (task_run t) p h past)
    × (stays (waiting (task_run t) p h past) ≡ false
    → slice_index_or s.since (p - 1) 0 ≡ min (steps_since (task_run t) p h past) BLOCK_WORDS)

-- others leave a seat as it is
abbrev pub OthersLeaveSeats : Type 0
OthersLeaveSeats = (t : Task) (h : ℕ) (more past : List Item) (s : Seating) → h < t.machine.harts → AreOfOthers h more
    → Legal (task_run t) (more ++ past) → IsStateLog (task_run t) (more ++ past) → Sits t h past s → Sits t h (more ++ past) s

-- a hart that is looked at again
abbrev pub LooksAgain : Type 0
LooksAgain = (t : Task) (h : ℕ) (past : List Item) (old new : Seating) → Sits t h past old
    → new ≡ record old { hart = new.hart } → new.hart ≡ hart_of t.machine t.mode past h
    → (new.hart.ending ≡ None → new.hart.steps < t.machine.limit) → Sits t h past new
