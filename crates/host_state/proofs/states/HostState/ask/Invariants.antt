use Rattle.host_state.proofs.Asked.{AsksSoFar}
use Rattle.host_state.proofs.states.HostState.ask.Given as goal

abbrev pub invariant-loop-place : goal.invariant-loop-place
invariant-loop-place g l = AsksSoFar l.initial.self l.self l.no l.place l.asks.first
