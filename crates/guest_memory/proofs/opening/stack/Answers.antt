use Rattle.std.proofs.Common.{ℕ, List, ap}
use Rattle.guest_memory.proofs.Openings.{stack_is, stack_with}
use Rattle.guest_memory.proofs.opening.stack.Goals as goal

pub returns : goal.returns
returns c = ap (λ (l : List ℕ). stack_with c.args.hart l) (stack_is c.in_ok-bytes.bytes.items c.in_ok-bytes.ensures)
