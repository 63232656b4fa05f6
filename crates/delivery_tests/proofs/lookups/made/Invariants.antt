use Rattle.delivery_tests.specs.Kept.{AreFor}
use Rattle.delivery_tests.proofs.lookups.made.Given as goal

abbrev pub invariant-loop : goal.invariant-loop
invariant-loop l = AreFor l.image l.sets l.lists
