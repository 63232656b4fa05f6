use Rattle.std.proofs.Common.{◌∙◌, ap}
use Rattle.script_order.specs.Totals.{last_steps}
use Rattle.host_state.proofs.ScriptLines.{before_turn}
use Rattle.host_state.proofs.states.HostState.total_before_turn.Goals as goal

pub returns : goal.returns
returns g c = record {
  before = before_turn c.args.self.now _ c.total.result c.last_steps.result c.saturating_sub.result c.self.view_is c.self.invariant
      c.entries.ensures.joined c.total.ensures (c.last_steps.ensures.steps ∙ ap last_steps c.entries.ensures.entries)
      c.saturating_sub.ensures;
}
