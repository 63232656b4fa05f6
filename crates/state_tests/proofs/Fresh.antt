-- The sets that harts have before any hold: none.
use Rattle.std.proofs.Common.{◌≡◌, ℕ, [], List, map}
use Rattle.std.specs.Prelude.{All}
use Rattle.flat_model.specs.declared.journals.Item.{Item}
use Rattle.flat_model.specs.declared.limits.TheConstants.{NO_PARTY}
use Rattle.flat_model.specs.declared.plugins.SetSpec.{SetSpec}
use Rattle.flat_model.specs.Log.{log}
use Rattle.plug_registry.specs.Installs.{start_order}
use Rattle.run_rules.specs.Places.{is_with_hart}
use Rattle.run_order.specs.Sets.{sets_for}
use Rattle.run_order.specs.InOrder.{task_run}
use Rattle.kept_order.specs.Hearing.{specs_for}
use Rattle.baton_gate.specs.Logs.{GoesOn}
use Rattle.host_state.specs.Scripting.{IsLineOf}
use Rattle.host_state.specs.State.{StateValue}
use Rattle.host_core.specs.Runs.{IsPlanned}
use Rattle.host_core.proofs.Planned as plan

pub planned : (past : List Item) (specs : List SetSpec) → GoesOn (IsLineOf NO_PARTY) (log (map start_order specs)) past
    → All IsPlanned past
planned past specs goes = plan.opening_is_planned past specs goes

pub no_sets : (s : StateValue) (h : ℕ) → All IsPlanned s.past → [] ≡ sets_for is_with_hart (task_run s.task) h s.past
no_sets s h all = plan.no_sets (task_run s.task) h s.past all

pub no_specs : (s : StateValue) (h : ℕ) → All IsPlanned s.past → [] ≡ specs_for (task_run s.task) h s.past
no_specs s h all = plan.no_specs (task_run s.task) h s.past all
