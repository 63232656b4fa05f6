use Rattle.std.proofs.Common.{◌≡◌, ◌≤◌, ◌∙◌, length, map, List, subst, ap, arith, inr}
use Rattle.flat_model.specs.declared.journals.Item.{Item}
use Rattle.flat_model.specs.declared.limits.TheConstants.{NO_PARTY}
use Rattle.flat_model.specs.Log.{log}
use Rattle.flat_model.specs.Plan.{Planned}
use Rattle.plug_registry.specs.Installs.{start_order}
use Rattle.run_order.specs.InOrder.{Task}
use Rattle.baton_gate.specs.Logs.{GoesOn}
use Rattle.host_state.specs.Scripting.{IsLineOf}
use Rattle.host_state.proofs.Starting.{all_installed}
use Rattle.host_state.proofs.states.HostState.new.Goals as goal

pub script_opening-requires-clause-installed : goal.script_opening-requires-clause-installed
script_opening-requires-clause-installed g c =
    let count : length c.plan.inside.installs.items ≤ c.loop-i.i = omega (arith, c.len-installs.ensures, c.loop-i-test.false) in
    all_installed _ c.loop-i.i c.loop-i.state c.loop-i.invariant
    (subst (λ (p : Planned). length p.installs ≤ c.loop-i.i) c.plan.view_is count)

pub returns-clause-log : goal.returns-clause-log
returns-clause-log g c =
    let count : length c.plan.inside.installs.items ≤ c.loop-i.i = omega (arith, c.len-installs.ensures, c.loop-i-test.false) in
    let installed = all_installed _ c.loop-i.i c.loop-i.state c.loop-i.invariant
    (subst (λ (p : Planned). length p.installs ≤ c.loop-i.i) c.plan.view_is count) in
    subst (λ (xs : List Item). GoesOn (IsLineOf NO_PARTY) xs c.script_opening.new.self.past)
    (installed ∙ ap (λ (t : Task). log (map start_order t.plan.installs)) c.loop-i.invariant.task)
    c.script_opening.ensures.placed

pub returns-clause-caught_up : goal.returns-clause-caught_up
returns-clause-caught_up g c = inr c.in_ok-script_opening.ensures.caught_up
