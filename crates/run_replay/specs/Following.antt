-- Where a replay stands between two entries of its journal, and what an entry makes of it.
use Rattle.std.specs.Prelude.{◌≡◌, ◌<◌, ℕ, true, false, List, Option, None, Some, length, slice_index_or}
use Rattle.std.specs.List.Sorted.{IsNonDecreasingBy}
use Rattle.flat_model.specs.declared.journals.Entry.{Entry}
use Rattle.flat_model.specs.declared.journals.Item.{Item}
use Rattle.flat_model.specs.Image.{Program}
use Rattle.flat_model.specs.Log.{journaled, with_entry}
use Rattle.flat_model.specs.Worlds.{hart_of}
use Rattle.block_finder.specs.Caches.{MayServe}
use Rattle.baton_gate.specs.Logs.{GoesOn}
use Rattle.run_rules.specs.Due.{turn_length, wanted}
use Rattle.run_rules.specs.Legal.{Legal, is_there}
use Rattle.run_rules.specs.Places.{takes_all}
use Rattle.run_order.specs.Sets.{is_closing_out}
use Rattle.run_order.specs.InOrder.{Task, task_run}
use Rattle.host_state.specs.Scripting.{IsLineOf}
use Rattle.host_state.specs.State.{StateValue}
use Rattle.replay_order.specs.Seats.{Seating, Sits}
use Rattle.run_replay.specs.declared.berths.Berth.{Berth}
use Rattle.run_replay.specs.declared.replays.Followed.{Followed}
use Rattle.run_replay.specs.declared.replays.Followed.TheVariants.{Went, Overdue, Breaks}
use Rattle.run_replay.specs.Lists.{AreLists}
use Rattle.run_replay.specs.Overdue.{IsOverdue}

-- the entry stands next in the log, and behind it nothing but lines of the script
pub record IsNext (e : Entry) (old new : StateValue) : Type 0 where
  pub task : new.task ≡ old.task
  pub party : ℕ
  pub items : GoesOn (IsLineOf party) (with_entry e (journaled old.past)) (journaled new.past)

-- the entry stands next in the log, and the plan wants a line behind it that can't stand in time any more
pub record IsLast (e : Entry) (old new : StateValue) : Type 0 where
  pub task : new.task ≡ old.task
  pub items : journaled new.past ≡ with_entry e (journaled old.past)
  pub overdue : IsOverdue (task_run new.task) new.past

-- no legal journal has the entry there
abbrev pub IsBreaking : Entry → StateValue → Type 0
IsBreaking e s = Legal (task_run s.task) (with_entry e (journaled s.past)) → ⊥

module _ {W : Type 0} where
  -- a hart's berth as plain data
  abbrev pub seating_of : Berth W → Seating
  seating_of b = record { hart = b.hart; sets = b.attached; filters = b.specs; asks = b.asks.first; since = b.since }

  -- the berth of hart h, which hasn't left
  pub record IsBerth (t : Task) (h : ℕ) (past : List Item) (b : Berth W) : Type 0 where
    pub sits : Sits t h past (seating_of b)
    pub kept : b.raw.kept ≡ true
    pub cached : AreLists t.machine.image b.generation b.specs b.lists

  -- a hart has a berth exactly while it hasn't left
  abbrev pub IsPlaced : Task → ℕ → List Item → Option (Berth W) → Type 0
  IsPlaced t h past None = is_there (task_run t) h past ≡ false
  IsPlaced t h past (Some b) = IsBerth t h past b

  -- between entries: the state goes on and nothing that the plan wants is missing, no closing is out, and each hart has its berth; the
  -- moments of the script's lines never fall
  pub record IsFollowing (s : StateValue) (berths : List (Option (Berth W))) (blocks : Option Program) : Type 0 where
    pub open_now : s.short ≡ false
    pub rising : IsNonDecreasingBy (λ t. t.when) s.task.plan.script
    pub caught_up : wanted (task_run s.task) s.past ≡ None
    pub none_out : (p : ℕ) → is_closing_out (task_run s.task) p s.past ≡ false
    pub count : length berths ≡ s.task.machine.harts
    pub places : (h : ℕ) → h < s.task.machine.harts → IsPlaced s.task h s.past (slice_index_or berths h None)
    pub serves : MayServe blocks s.task.machine.image

  -- in a Turn of hart h, of which so many steps are made: the hart was looked at, and has taken what waited for it
  pub record IsTurning (t : Task) (h made : ℕ) (past : List Item) (b : Berth W) (blocks : Option Program) : Type 0 where
    pub berth : IsBerth t h past b
    pub is : b.hart ≡ hart_of t.machine t.mode past h
    pub caught_up : made ≡ 0 → wanted (task_run t) past ≡ None
    pub taken : takes_all (task_run t) h past ≡ true
    pub turn : turn_length h past ≡ made
    pub serves : MayServe blocks t.machine.image

  -- an entry is followed; or it is, but no other may follow; or it breaks a rule
  abbrev pub IsFollowed : Followed → Entry → StateValue → StateValue → List (Option (Berth W)) → Option Program → Type 0
  IsFollowed Went e old new berths blocks = IsNext e old new × IsFollowing new berths blocks
  IsFollowed Overdue e old new berths blocks = IsLast e old new
  IsFollowed Breaks e old new berths blocks = IsBreaking e old
