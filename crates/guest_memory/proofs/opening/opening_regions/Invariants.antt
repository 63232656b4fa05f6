use Rattle.std.proofs.Common.{◌≡◌}
use Rattle.guest_memory.specs.Memory.{with_stacks}
use Rattle.guest_memory.proofs.opening.opening_regions.Given as goal

abbrev pub invariant-loop-hart : goal.invariant-loop-hart
invariant-loop-hart l = l.regions.items ≡ with_stacks l.image.regions l.hart
