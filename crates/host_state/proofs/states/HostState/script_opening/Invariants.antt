use Rattle.flat_model.specs.declared.limits.TheConstants.{NO_PARTY}
use Rattle.host_state.specs.Scripting.{HasJudged}
use Rattle.host_state.proofs.states.HostState.script_opening.Given as goal

abbrev pub invariant-loop-line : goal.invariant-loop-line
invariant-loop-line g l = HasJudged NO_PARTY l.line l.fn.self l.self
