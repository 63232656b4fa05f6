-- What holds of what is in order, for those who hold a part of it while the log goes on.
use Rattle.std.specs.Prelude.{◌≡◌, ◌<◌, ◌≤◌, ◌+◌, ◌-◌, true, ℕ, Option, List, [], ◌∷◌, ◌++◌, Some, None, length, replicate, slice_set, slice_index_or}
use Rattle.flat_model.specs.declared.plugins.SetSpec.{SetSpec}
use Rattle.flat_model.specs.declared.journals.Item.{Item}
use Rattle.flat_model.specs.declared.journals.Item.TheVariants.{Ordered, Left, Got}
use Rattle.flat_model.specs.declared.journals.Order.TheVariants.{Install}
use Rattle.flat_model.specs.declared.journals.Origin.{Origin}
use Rattle.watcher_api.specs.Attachment.{Attachment, opening}
use Rattle.flat_model.specs.Log.{steps}
use Rattle.flat_model.specs.World.{Start}
use Rattle.flat_model.specs.Worlds.{world, hart_of}
use Rattle.run_rules.specs.Guest.{Run, plugins}
use Rattle.run_rules.specs.Legal.{Legal}
use Rattle.run_rules.specs.Places.{IsStateLog, is_waiting, is_with_hart, is_parked, may_get}
use Rattle.run_rules.specs.Laws.{AreOfOthers}
use Rattle.run_order.specs.Sets.{attachment_of, placed_at, shelf, sets_for}
use Rattle.run_order.specs.InOrder.{Task}

-- the sets that a hart has stay as they are while others add to the log
abbrev pub SetsStay : Type 0
SetsStay = (run : Run) (h : ℕ) (more past : List Item) → h < run.harts → AreOfOthers h more
    → Legal run (more ++ past) → IsStateLog run (more ++ past) → sets_for is_with_hart run h (more ++ past) ≡ sets_for is_with_hart run h past

-- and so does the hart, where it has its start
abbrev pub HartStays : Type 0
HartStays = (t : Task) (h : ℕ) (more past : List Item) (start : Start) → AreOfOthers h more
    → (world t.machine t.mode past).shared.starts h ≡ Some start
    → hart_of t.machine t.mode (more ++ past) h ≡ hart_of t.machine t.mode past h

-- a Turn moves no set that waits or is parked, and lets none of them hear
abbrev pub TurnsKeepShelves : Type 0
TurnsKeepShelves = (run : Run) (h n : ℕ) (past : List Item) → Legal run (steps h n past) → IsStateLog run (steps h n past)
    → (shelf is_waiting run (steps h n past) ≡ shelf is_waiting run past) × (shelf is_parked run (steps h n past) ≡ shelf is_parked run past)

-- What orders and takes move.

-- a table with one place changed
abbrev pub with_place : {A : Type 0} → List (List A) → ℕ → ℕ → A → List (List A)
with_place rows i j x = slice_set rows i (slice_set (slice_index_or rows i []) j x)

-- an install adds a row to each shelf: a set that has heard nothing waits for each hart, and none is parked
abbrev pub InstallsWait : Type 0
InstallsWait = (run : Run) (origin : Origin) (spec : SetSpec) (past : List Item)
    → Legal run (Ordered origin (Install spec) ∷ past) → IsStateLog run past
    → (shelf is_waiting run (Ordered origin (Install spec) ∷ past)
    ≡ shelf is_waiting run past ++ replicate run.harts (Some (opening (length (plugins run past).plugins + 1) spec)) ∷ [])
    × (shelf is_parked run (Ordered origin (Install spec) ∷ past) ≡ shelf is_parked run past ++ replicate run.harts None ∷ [])

-- a hart that takes a set takes it from where it waits, and it is the set that the log says
pub record SetMoves (run : Run) (h plugin : ℕ) (past : List Item) : Type 0 where
  pub taken : placed_at is_waiting run past plugin h ≡ Some (attachment_of run plugin h past)
  pub waiting : shelf is_waiting run (Got h plugin ∷ past) ≡ with_place (shelf is_waiting run past) (plugin - 1) h None
  pub parked : shelf is_parked run (Got h plugin ∷ past) ≡ shelf is_parked run past
  pub with_hart : placed_at is_with_hart run (Got h plugin ∷ past) plugin h ≡ Some (attachment_of run plugin h past)

abbrev pub TakesMoveSets : Type 0
TakesMoveSets = (run : Run) (h plugin : ℕ) (past : List Item)
    → 1 ≤ plugin → plugin ≤ length (plugins run past).plugins → h < run.harts → may_get run h plugin past ≡ true → SetMoves run h plugin past

-- sets of hart h that are put on a shelf
abbrev pub park_all : ℕ → List Attachment → List (List (Option Attachment)) → List (List (Option Attachment))
park_all h [] rows = rows
park_all h (a ∷ sets) rows = park_all h sets (with_place rows (a.plugin - 1) h (Some a))

-- a hart that leaves parks the sets that it has, and nothing else moves
abbrev pub LeavesParkSets : Type 0
LeavesParkSets = (run : Run) (h : ℕ) (past : List Item) → h < run.harts
    → (shelf is_parked run (Left h ∷ past) ≡ park_all h (sets_for is_with_hart run h past) (shelf is_parked run past))
    × (shelf is_waiting run (Left h ∷ past) ≡ shelf is_waiting run past)
