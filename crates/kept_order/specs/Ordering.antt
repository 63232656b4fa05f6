-- What orders that come while a run goes on make of the stored state: withdrawals, and registrations of a plug-in that is Idle.
use Rattle.std.specs.Prelude.{◌≡◌, ◌-◌, ℕ, ◌∷◌, replicate, slice_set, Some}
use Rattle.flat_model.specs.declared.plugins.SetSpec.{SetSpec}
use Rattle.flat_model.specs.declared.journals.Item.TheVariants.{Ordered}
use Rattle.flat_model.specs.declared.journals.Order.{Order}
use Rattle.flat_model.specs.declared.journals.Order.TheVariants.{Install, Register, Reset, Uninstall}
use Rattle.flat_model.specs.declared.journals.Origin.{Origin}
use Rattle.flat_model.specs.Log.{log}
use Rattle.flat_model.specs.Registry.{after_order}
use Rattle.watcher_api.specs.Attachment.{opening}
use Rattle.run_rules.specs.Legal.{Legal}
use Rattle.run_order.specs.InOrder.{Task, Stored, InOrder, task_run}
use Rattle.kept_order.specs.Arriving.{arrivals}

-- an order that withdraws a set
abbrev pub IsWithdrawal : Order → Type 0
IsWithdrawal (Install spec) = ⊥
IsWithdrawal (Register plugin spec) = ⊥
IsWithdrawal (Reset plugin) = Unit {0}
IsWithdrawal (Uninstall plugin) = Unit {0}

-- the order stands in log and journal, and no set moves
pub record IsOrdered (t : Task) (origin : Origin) (order : Order) (old new : Stored) : Type 0 where
  pub past : new.past ≡ Ordered origin order ∷ old.past
  pub journal : log new.entries ≡ Ordered origin order ∷ log old.entries
  pub shared : new.shared ≡ old.shared
  pub plugins : new.plugins ≡ after_order order old.plugins
  pub waiting : new.waiting ≡ old.waiting
  pub parked : new.parked ≡ old.parked
  pub harts : new.harts ≡ old.harts
  pub closers : new.closers ≡ old.closers

pub record IsWithdrawn (t : Task) (old new : Stored) : Type 0 where
  pub order : InOrder t new
  pub arrivals : arrivals (task_run t) new.past ≡ arrivals (task_run t) old.past

abbrev pub WithdrawalsKeepOrder : Type 0
WithdrawalsKeepOrder = (t : Task) (origin : Origin) (order : Order) (old new : Stored) → IsWithdrawal order
    → InOrder t old → Legal (task_run t) (Ordered origin order ∷ old.past) → IsOrdered t origin order old new → IsWithdrawn t old new

-- a registration stands in log and journal, and its set waits for each hart
pub record IsRegistered (t : Task) (origin : Origin) (plugin : ℕ) (spec : SetSpec) (old new : Stored) : Type 0 where
  pub past : new.past ≡ Ordered origin (Register plugin spec) ∷ old.past
  pub journal : log new.entries ≡ Ordered origin (Register plugin spec) ∷ log old.entries
  pub shared : new.shared ≡ old.shared
  pub plugins : new.plugins ≡ after_order (Register plugin spec) old.plugins
  pub waiting : new.waiting ≡ slice_set old.waiting (plugin - 1) (replicate t.machine.harts (Some (opening plugin spec)))
  pub parked : new.parked ≡ old.parked
  pub harts : new.harts ≡ old.harts
  pub closers : new.closers ≡ old.closers

pub record HasArrivals (t : Task) (plugin : ℕ) (spec : SetSpec) (old new : Stored) : Type 0 where
  pub order : InOrder t new
  pub arrivals : arrivals (task_run t) new.past
      ≡ slice_set (arrivals (task_run t) old.past) (plugin - 1) (replicate t.machine.harts (Some spec))

abbrev pub RegistrationsKeepOrder : Type 0
RegistrationsKeepOrder = (t : Task) (origin : Origin) (plugin : ℕ) (spec : SetSpec) (old new : Stored)
    → InOrder t old → Legal (task_run t) (Ordered origin (Register plugin spec) ∷ old.past)
    → IsRegistered t origin plugin spec old new → HasArrivals t plugin spec old new
