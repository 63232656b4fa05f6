use Rattle.std.proofs.Common.{◌≡◌, ◌++◌, drop}
use Rattle.instr_lists.specs.Slots.{slots_from}
use Rattle.instr_lists.proofs.slots.push_slots.Given as goal

-- the slots so far with those still to come are all
abbrev pub invariant-loop-k : goal.invariant-loop-k
invariant-loop-k l = l.slots.items ++ slots_from l.k l.sort (drop l.k l.sets) ≡ l.fn.slots.items ++ slots_from 0 l.sort l.sets
