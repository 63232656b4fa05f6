use Rattle.std.proofs.Common.{◌≡◌, ◌++◌}
use Rattle.guest_gen.specs.Instructions.{sections}
use Rattle.guest_gen.proofs.instructions.put_sections.Given as goal

abbrev pub invariant-loop-i : goal.invariant-loop-i
invariant-loop-i l = l.code.items ≡ l.initial.code.items ++ sections 1 l.i
