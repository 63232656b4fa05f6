use Rattle.std.proofs.Common.{◌≡◌, take}
use Rattle.instr_lists.proofs.lists.traced.Given as goal

abbrev pub invariant-loop-set : goal.invariant-loop-set
invariant-loop-set l = l.traced.items ≡ take l.set-index l.sets
