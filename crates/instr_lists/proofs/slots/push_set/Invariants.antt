use Rattle.std.proofs.Common.{◌≡◌, ◌++◌, drop}
use Rattle.instr_lists.specs.Slots.{slots_in}
use Rattle.instr_lists.proofs.slots.push_set.Given as goal

-- the slots so far with those still to come are all
abbrev pub invariant-loop-i : goal.invariant-loop-i
invariant-loop-i l = l.slots.items ++ slots_in l.k l.i l.sort (drop l.i l.subs) ≡ l.fn.slots.items ++ slots_in l.k 0 l.sort l.subs
