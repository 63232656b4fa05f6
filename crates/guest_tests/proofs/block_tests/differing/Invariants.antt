use Rattle.block_finder.specs.Caches.{MayServe}
use Rattle.guest_tests.proofs.block_tests.differing.Given as goal

abbrev pub invariant-loop-k : goal.invariant-loop-k
invariant-loop-k l = MayServe l.cache l.image
