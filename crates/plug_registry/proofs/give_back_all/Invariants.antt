-- The slots that the loop has passed.
use Rattle.std.proofs.Common.{◌≡◌, ◌++◌, take, drop, map}
use Rattle.plug_registry.specs.State.{freed}
use Rattle.plug_registry.proofs.give_back_all.Given as goal

abbrev pub invariant-loop-slot : goal.invariant-loop-slot
invariant-loop-slot l = l.slots ≡ map (freed l.hart) (take l.slot-index l.initial.slots) ++ drop l.slot-index l.initial.slots
