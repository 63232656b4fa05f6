use Rattle.std.proofs.Common.{◌≡◌}
use Rattle.baton_gate.specs.Passes.{carries}
use Rattle.baton_tests.specs.Turns.{IsFree}
use Rattle.baton_tests.proofs.parcel.add_all.Given as goal

abbrev pub invariant-loop : goal.invariant-loop
invariant-loop g l = record {
  free : IsFree l.gate l.pass;
  frame : carries l.pass ≡ carries l.fn.pass;
}
