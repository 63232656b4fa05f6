use Rattle.std.proofs.Common.{◌≡◌, replicate, None}
use Rattle.host_state.proofs.opening.empty_row.Given as goal

abbrev pub invariant-loop-hart : goal.invariant-loop-hart
invariant-loop-hart g l = l.row.items ≡ replicate l._hart None
