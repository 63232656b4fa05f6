use Rattle.std.proofs.Common.{◌≡◌, map}
use Rattle.flat_model.specs.Permission.{may, span_of}
use Rattle.guest_memory.specs.Memory.{permission_of}
use Rattle.guest_memory.proofs.regions.permits.Given as goal

abbrev pub decreases-loop-left : goal.decreases-loop-left
decreases-loop-left l = l.left

abbrev pub invariant-loop-left : goal.invariant-loop-left
invariant-loop-left l = may (map span_of l.regions) (permission_of l.access) l.at l.left ≡ may (map span_of l.regions)
    (permission_of l.access) l.addr l.n
