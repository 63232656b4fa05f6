use Rattle.host_state.proofs.ScriptLines.{total_of}
use Rattle.host_state.proofs.states.HostState.total.Goals as goal

pub returns : goal.returns
returns g c = record { total = total_of c.args.self.now _ c.total.result c.self.view_is c.self.invariant c.total.ensures }
