use Rattle.std.proofs.Common.{◌≡◌, replicate, None}
use Rattle.guest_memory.proofs.opening.no_reservations.Given as goal

abbrev pub invariant-loop-hart : goal.invariant-loop-hart
invariant-loop-hart l = l.reservations.items ≡ replicate l._hart None
