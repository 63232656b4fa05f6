-- What becomes of the stored state where a hart takes a set that waits for it.
use Rattle.std.specs.Prelude.{◌≡◌, ◌≤◌, ◌-◌, ℕ, true, false, List, [], ◌∷◌, ◌++◌, None, length}
use Rattle.flat_model.specs.declared.journals.Item.{Item}
use Rattle.flat_model.specs.declared.journals.Item.TheVariants.{Step, Ordered, GaveBack, Left, Told, Got, Took}
use Rattle.flat_model.specs.Log.{total_steps}
use Rattle.flat_model.specs.Worlds.{world}
use Rattle.watcher_api.specs.Attachment.{with_set}
use Rattle.run_rules.specs.Guest.{Run, plugins}
use Rattle.run_rules.specs.Heard.{waiting}
use Rattle.run_rules.specs.Due.{turn_length, next_line, wanted}
use Rattle.run_rules.specs.Legal.{Legal, is_there, owes_any, asks_nothing, passes_nothing_by, runs}
use Rattle.run_rules.specs.Places.{IsStateLog, is_with_hart, may_get, takes_all}
use Rattle.run_order.specs.Sets.{attachment_of, sets_for}
use Rattle.run_order.specs.Laws.{with_place}
use Rattle.run_order.specs.InOrder.{Task, Stored, InOrder, task_run}

-- the set of the plug-in is gone from where it waited for the hart, and nothing else changed
pub record HasGot (h plugin : ℕ) (old new : Stored) : Type 0 where
  pub past : new.past ≡ Got h plugin ∷ old.past
  pub entries : new.entries ≡ old.entries
  pub shared : new.shared ≡ old.shared
  pub plugins : new.plugins ≡ old.plugins
  pub waiting : new.waiting ≡ with_place old.waiting (plugin - 1) h None
  pub parked : new.parked ≡ old.parked
  pub harts : new.harts ≡ old.harts
  pub closers : new.closers ≡ old.closers

abbrev pub TakesKeepOrder : Type 0
TakesKeepOrder = (t : Task) (h plugin : ℕ) (old new : Stored) → InOrder t old
    → 1 ≤ plugin → may_get (task_run t) h plugin old.past ≡ true → HasGot h plugin old new → InOrder t new

-- the hart has then one set more: the one that waited
abbrev pub TakesAddSets : Type 0
TakesAddSets = (run : Run) (h plugin : ℕ) (past : List Item) → 1 ≤ plugin → may_get run h plugin past ≡ true
    → sets_for is_with_hart run h (Got h plugin ∷ past) ≡ with_set (attachment_of run plugin h past) (sets_for is_with_hart run h past)

-- nothing waits any more for a hart that owes no Back, once there is no set that it may take
abbrev pub TakenIsAll : Type 0
TakenIsAll = (run : Run) (h : ℕ) (past : List Item) → Legal run past → IsStateLog run past
    → is_there run h past ≡ true → owes_any run h past ≡ false
    → ((plugin : ℕ) → 1 ≤ plugin → plugin ≤ length (plugins run past).plugins → may_get run h plugin past ≡ false)
    → takes_all run h past ≡ true

-- Takes alone.

abbrev pub IsGot : Item → Type 0
IsGot (Step hart) = ⊥
IsGot (Ordered origin order) = ⊥
IsGot (GaveBack hart plugin) = ⊥
IsGot (Left hart) = ⊥
IsGot (Told party plugin) = ⊥
IsGot (Got hart plugin) = Unit {0}
IsGot (Took party plugin) = ⊥

-- items by which harts take sets, and no others
abbrev pub AreGots : List Item → Type 0
AreGots [] = Unit {0}
AreGots (x ∷ xs) = IsGot x × AreGots xs

-- what the rules see of a log is what they saw of it before
pub record LittleIsChanged (t : Task) (past now : List Item) : Type 0 where
  pub world : world t.machine t.mode now ≡ world t.machine t.mode past
  pub plugins : plugins (task_run t) now ≡ plugins (task_run t) past
  pub wanted : wanted (task_run t) now ≡ wanted (task_run t) past
  pub line : next_line (task_run t) now ≡ next_line (task_run t) past
  pub total : total_steps now ≡ total_steps past
  pub turn : (h : ℕ) → turn_length h now ≡ turn_length h past
  pub asks : (plugin h : ℕ) → waiting (task_run t) plugin h now ≡ waiting (task_run t) plugin h past
  pub there : (h : ℕ) → is_there (task_run t) h now ≡ is_there (task_run t) h past
  pub owes : (h : ℕ) → owes_any (task_run t) h now ≡ owes_any (task_run t) h past

abbrev pub GotsChangeLittle : Type 0
GotsChangeLittle = (t : Task) (more past : List Item) → AreGots more → LittleIsChanged t past (more ++ past)

-- so a hart that may step still may
pub record StillHolds (t : Task) (h : ℕ) (past now : List Item) : Type 0 where
  pub there : is_there (task_run t) h past ≡ true → is_there (task_run t) h now ≡ true
  pub owes_none : owes_any (task_run t) h past ≡ false → owes_any (task_run t) h now ≡ false
  pub asks_nothing : asks_nothing (task_run t) h past ≡ true → asks_nothing (task_run t) h now ≡ true
  pub passes_nothing_by : passes_nothing_by (task_run t) past ≡ true → passes_nothing_by (task_run t) now ≡ true
  pub runs : runs (task_run t) h past ≡ true → runs (task_run t) h now ≡ true

abbrev pub GotsKeepHartsGoing : Type 0
GotsKeepHartsGoing = (t : Task) (h : ℕ) (more past : List Item) → AreGots more → StillHolds t h past (more ++ past)
