-- What becomes of the stored state where a hart gives a plug-in back: its set is parked, from the hart or from where it waited.
use Rattle.std.specs.Prelude.{◌≡◌, ◌-◌, ℕ, ◌==◌, ◌&&◌, not, List, ◌∷◌, filter, length, Option, Some, None}
use Rattle.std.specs.List.Sorted.{IsNonDecreasingBy}
use Rattle.std.specs.Option.{option_or}
use Rattle.flat_model.specs.declared.journals.Item.{Item}
use Rattle.flat_model.specs.declared.journals.Item.TheVariants.{GaveBack}
use Rattle.flat_model.specs.Log.{log}
use Rattle.flat_model.specs.Registry.{after_back, owes}
use Rattle.flat_model.specs.Worlds.{world}
use Rattle.watcher_api.specs.Attachment.{Attachment, without}
use Rattle.run_rules.specs.Guest.{Run, plugins}
use Rattle.run_rules.specs.Heard.{waiting}
use Rattle.run_rules.specs.Due.{wanted}
use Rattle.run_rules.specs.Legal.{Legal, is_there, asks_nothing}
use Rattle.run_rules.specs.Places.{is_waiting, is_with_hart}
use Rattle.run_order.specs.Sets.{placed_at, sets_for}
use Rattle.run_order.specs.Laws.{with_place}
use Rattle.run_order.specs.InOrder.{Task, Stored, InOrder, task_run}
use Rattle.kept_order.specs.Arriving.{arrivals}
use Rattle.kept_order.specs.Hearing.{specs_for}

-- a table with something put at one place, where there is something to put
abbrev pub with_some : List (List (Option Attachment)) → ℕ → ℕ → Option Attachment → List (List (Option Attachment))
with_some rows i j None = rows
with_some rows i j (Some a) = with_place rows i j (Some a)

-- the set that comes back, from where it waits or from the hart; a plug-in that was uninstalled while Idle has none
abbrev pub set_back : Run → ℕ → ℕ → List Item → Option Attachment
set_back run h plugin past = option_or (placed_at is_waiting run past plugin h) (placed_at is_with_hart run past plugin h)

pub record IsGivenBack (t : Task) (h plugin : ℕ) (old new : Stored) : Type 0 where
  pub past : new.past ≡ GaveBack h plugin ∷ old.past
  pub journal : log new.entries ≡ GaveBack h plugin ∷ log old.entries
  pub shared : new.shared ≡ old.shared
  pub plugins : new.plugins ≡ after_back h plugin old.plugins
  pub waiting : new.waiting ≡ with_place old.waiting (plugin - 1) h None
  pub parked : new.parked ≡ with_some old.parked (plugin - 1) h (set_back (task_run t) h plugin old.past)
  pub harts : new.harts ≡ old.harts
  pub closers : new.closers ≡ old.closers

pub record IsReturned (t : Task) (h plugin : ℕ) (old new : Stored) : Type 0 where
  pub order : InOrder t new
  pub arrivals : arrivals (task_run t) new.past ≡ with_place (arrivals (task_run t) old.past) (plugin - 1) h None

abbrev pub BacksKeepOrder : Type 0
BacksKeepOrder = (t : Task) (h plugin : ℕ) (old new : Stored) → InOrder t old
    → Legal (task_run t) (GaveBack h plugin ∷ old.past) → IsGivenBack t h plugin old new → IsReturned t h plugin old new

-- the hart then has the plug-in's set no more, and its other sets as before
pub record IsWithout (run : Run) (h plugin : ℕ) (past : List Item) : Type 0 where
  pub sets : sets_for is_with_hart run h (GaveBack h plugin ∷ past) ≡ without plugin (sets_for is_with_hart run h past)
  pub specs : specs_for run h (GaveBack h plugin ∷ past) ≡ filter (λ s. not (s.0 == plugin)) (specs_for run h past)

abbrev pub BacksTakeSets : Type 0
BacksTakeSets = (run : Run) (h plugin : ℕ) (past : List Item) → IsWithout run h plugin past

-- what a Back leaves as it was: the hart owes this one no more, and the others as before
pub record HasGivenBack (t : Task) (h plugin : ℕ) (past now : List Item) : Type 0 where
  pub world : world t.machine t.mode now ≡ world t.machine t.mode past
  pub there : is_there (task_run t) h now ≡ is_there (task_run t) h past
  pub as_many : length (plugins (task_run t) now).plugins ≡ length (plugins (task_run t) past).plugins
  pub asks : (p : ℕ) → waiting (task_run t) p h now ≡ waiting (task_run t) p h past
  pub quiet : asks_nothing (task_run t) h now ≡ asks_nothing (task_run t) h past
  pub none : wanted (task_run t) past ≡ None → wanted (task_run t) now ≡ None
  pub owes : (p : ℕ) → owes (plugins (task_run t) now) h p ≡ (not (plugin == p) && owes (plugins (task_run t) past) h p)

abbrev pub BacksChangeLittle : Type 0
BacksChangeLittle = (t : Task) (h plugin : ℕ) (past : List Item) → IsNonDecreasingBy (λ t. t.when) t.plan.script
    → Legal (task_run t) (GaveBack h plugin ∷ past) → HasGivenBack t h plugin past (GaveBack h plugin ∷ past)
