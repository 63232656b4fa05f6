use Rattle.guest_memory.specs.Memory.{IsWritten}
use Rattle.guest_memory.proofs.regions.store_across.Given as goal

abbrev pub invariant-loop-k : goal.invariant-loop-k
invariant-loop-k l = IsWritten l.fn.regions l.regions l.addr l.k l.value
