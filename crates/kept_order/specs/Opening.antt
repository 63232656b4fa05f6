-- The stored state before any item, and what a registration makes of it.
use Rattle.std.specs.Prelude.{◌≡◌, ◌+◌, List, [], ◌∷◌, ◌++◌, length, replicate, slice_get, Some, None}
use Rattle.flat_model.specs.declared.plugins.SetSpec.{SetSpec}
use Rattle.flat_model.specs.declared.journals.Item.{Item}
use Rattle.flat_model.specs.declared.journals.Item.TheVariants.{Ordered}
use Rattle.flat_model.specs.declared.journals.Order.TheVariants.{Install}
use Rattle.flat_model.specs.declared.journals.Origin.{Origin}
use Rattle.flat_model.specs.declared.journals.Origin.TheVariants.{Start}
use Rattle.flat_model.specs.declared.limits.TheConstants.{RACK_BOXES}
use Rattle.flat_model.specs.Log.{log}
use Rattle.flat_model.specs.Registry.{no_plugins, after_order, refusal}
use Rattle.flat_model.specs.World.{opening_shared}
use Rattle.watcher_api.specs.Attachment.{opening}
use Rattle.run_rules.specs.Guest.{Run, plugins}
use Rattle.run_rules.specs.Due.{start_orders, wanted}
use Rattle.run_rules.specs.Legal.{Legal}
use Rattle.run_order.specs.InOrder.{Task, Stored, InOrder, task_run}

-- before any item: no plug-in, no set, and no hart that has left
abbrev pub opening_state : Task → Stored
opening_state t = record {
  past = [];
  entries = [];
  shared = opening_shared t.machine.image t.mode t.machine.harts;
  plugins = no_plugins t.machine.harts RACK_BOXES;
  waiting = [];
  parked = [];
  harts = replicate t.machine.harts None;
  closers = [];
}

abbrev pub OpensInOrder : Type 0
OpensInOrder = (t : Task) → InOrder t (opening_state t)

-- an install stands in log and journal; its set waits for each hart and has heard nothing, and its closer has no notice
pub record Installed (t : Task) (origin : Origin) (spec : SetSpec) (old new : Stored) : Type 0 where
  pub past : new.past ≡ Ordered origin (Install spec) ∷ old.past
  pub journal : log new.entries ≡ Ordered origin (Install spec) ∷ log old.entries
  pub shared : new.shared ≡ old.shared
  pub plugins : new.plugins ≡ after_order (Install spec) old.plugins
  pub waiting : new.waiting ≡ old.waiting ++ replicate t.machine.harts (Some (opening (length old.plugins.plugins + 1) spec)) ∷ []
  pub parked : new.parked ≡ old.parked ++ replicate t.machine.harts None ∷ []
  pub harts : new.harts ≡ old.harts
  pub closers : new.closers ≡ old.closers ++ Some [] ∷ []

abbrev pub InstallsKeepOrder : Type 0
InstallsKeepOrder = (t : Task) (origin : Origin) (spec : SetSpec) (old new : Stored)
    → InOrder t old → Legal (task_run t) (Ordered origin (Install spec) ∷ old.past) → Installed t origin spec old new → InOrder t new

-- the plan's next install stands where the registry allows it
abbrev pub NextInstallsStand : Type 0
NextInstallsStand = (run : Run) (spec : SetSpec) (past : List Item) → Legal run past
    → slice_get run.plan.installs (start_orders past) ≡ Some spec → refusal (plugins run past) (Install spec) ≡ None
    → Legal run (Ordered Start (Install spec) ∷ past)

-- and once all stand, a plan without a script wants nothing more
abbrev pub NothingIsWanted : Type 0
NothingIsWanted = (run : Run) (past : List Item) → run.plan.script ≡ []
    → slice_get run.plan.installs (start_orders past) ≡ None → wanted run past ≡ None
