-- When the state that the harts share is in order, and when a hart's runner is: what each holds is what its log says.
use Rattle.std.specs.Prelude.{◌≡◌, ◌≤◌, ℕ, true, if◌then◌else◌, List, [], ◌∷◌, ◌++◌, map, Option, Some, None, MatchOption}
use Rattle.flat_model.specs.declared.plugins.Ask.{Ask}
use Rattle.flat_model.specs.declared.journals.Entry.{Entry}
use Rattle.flat_model.specs.declared.journals.Item.{Item}
use Rattle.flat_model.specs.declared.journals.Mode.{Mode}
use Rattle.flat_model.specs.Log.{log, journaled}
use Rattle.flat_model.specs.Plan.{Planned}
use Rattle.flat_model.specs.Registry.{Plugins, plugin_of, has_left, is_closing}
use Rattle.flat_model.specs.World.{Machine, HartState, Shared}
use Rattle.flat_model.specs.Worlds.{world, hart_of}
use Rattle.watcher_api.specs.Acting.{ask_of}
use Rattle.watcher_api.specs.Attachment.{Attachment}
use Rattle.run_rules.specs.Guest.{Run, run_of, plugins}
use Rattle.run_rules.specs.Heard.{waiting}
use Rattle.run_rules.specs.Legal.{Legal}
use Rattle.run_rules.specs.Places.{IsStateLog, is_waiting, is_with_hart, is_parked, taker}
use Rattle.run_order.specs.Sets.{Notice, shelf, sets_for, harts_of, notice_of, notices_of, closers_of}

-- what is run: a machine in a mode, and a plan
pub record Task : Type 0 where
  pub machine : Machine
  pub mode : Mode
  pub plan : Planned

abbrev pub task_run : Task → Run
task_run t = run_of t.machine t.mode t.plan

-- what the shared state holds: its log, its journal, what the harts of the guest share, the plug-ins, the sets that wait for a hart and
-- those that are parked, by plug-in and hart, the harts that have left, and the notices of the closers that are there
pub record Stored : Type 0 where
  pub past : List Item
  pub entries : List Entry
  pub shared : Shared
  pub plugins : Plugins
  pub waiting : List (List (Option Attachment))
  pub parked : List (List (Option Attachment))
  pub harts : List (Option HartState)
  pub closers : List (Option (List Notice))

-- a hart that has left, as its steps left it
abbrev pub hart_kept : Task → List Item → ℕ → Option HartState
hart_kept t past h = if has_left (plugins (task_run t) past) h then Some (hart_of t.machine t.mode past h) else None

pub record InOrder (t : Task) (s : Stored) : Type 0 where
  pub legal : Legal (task_run t) s.past
  pub state_log : IsStateLog (task_run t) s.past
  pub journal : log s.entries ≡ journaled s.past
  pub shared : s.shared ≡ (world t.machine t.mode s.past).shared
  pub plugins : s.plugins ≡ plugins (task_run t) s.past
  pub waiting : s.waiting ≡ shelf is_waiting (task_run t) s.past
  pub parked : s.parked ≡ shelf is_parked (task_run t) s.past
  pub harts : s.harts ≡ map (hart_kept t s.past) (harts_of (task_run t))
  pub closers : s.closers ≡ closers_of (task_run t) s.past

-- a closing in a party's hand: the plug-in, its closer's notices, and what the closer is to be told, while it hasn't been
pub record InHand : Type 0 where
  pub plugin : ℕ
  pub notices : List Notice
  pub back : Option Notice

-- the party took it, and has recorded no Done since; the closer has the notices of the Dones so far, and once it is told, this one too
pub record IsInHand (t : Task) (party : ℕ) (seen : List Item) (c : InHand) : Type 0 where
  pub taken : taker c.plugin seen ≡ Some party
  pub undone : is_closing (plugin_of (plugins (task_run t) seen) c.plugin).state ≡ true
  pub notices : MatchOption c.back
      (c.notices ≡ notices_of (task_run t) c.plugin seen ++ notice_of (task_run t) c.plugin seen ∷ [])
      (λ back. (c.notices ≡ notices_of (task_run t) c.plugin seen) × (back ≡ notice_of (task_run t) c.plugin seen))

-- what the runner of a hart holds, which has neither left nor failed
pub record Running : Type 0 where
  pub hart : HartState
  pub attached : List Attachment
  pub asks : List Ask
  pub closing : Option InHand

pub record RunnerInOrder (t : Task) (h : ℕ) (seen : List Item) (r : Running) : Type 0 where
  pub hart : r.hart ≡ hart_of t.machine t.mode seen h
  pub attached : r.attached ≡ sets_for is_with_hart (task_run t) h seen
  pub asks : (plugin : ℕ) → 1 ≤ plugin → plugin ≤ 8 → ask_of plugin r.asks ≡ waiting (task_run t) plugin h seen
  pub closing : MatchOption r.closing (Unit {0}) (IsInHand t h seen)
