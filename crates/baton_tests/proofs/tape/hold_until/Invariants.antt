use Rattle.baton_tests.specs.Turns.{IsFree}
use Rattle.baton_tests.proofs.tape.hold_until.Given as goal

abbrev pub invariant-loop : goal.invariant-loop
invariant-loop g l = record {
  can_next : (goal.iterator-loop g).can_next l.iterator';
  is_finite : (goal.iterator-loop g).is_finite l.iterator';
  free : IsFree l.gate l.pass;
}
