use Rattle.host_state.specs.Scripting.{HasJudged}
use Rattle.host_state.proofs.states.HostState.script_due.Given as goal

abbrev pub invariant-loop-line : goal.invariant-loop-line
invariant-loop-line g l = HasJudged l.no l.line l.fn.self l.self
