-- The harts that the loop has passed.
use Rattle.std.proofs.Common.{◌≡◌, take, map, not}
use Rattle.plug_registry.proofs.slot.owe_all.Given as goal

abbrev pub invariant-loop-i : goal.invariant-loop-i
invariant-loop-i l = take l.i l.owing ≡ map not (take l.i l.gone)
