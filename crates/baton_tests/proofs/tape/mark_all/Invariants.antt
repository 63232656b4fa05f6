use Rattle.baton_tests.specs.Turns.{IsFree}
use Rattle.baton_tests.proofs.tape.mark_all.Given as goal

abbrev pub invariant-loop-number : goal.invariant-loop-number
invariant-loop-number g l = IsFree l.gate l.pass
