use Rattle.std.proofs.Common.{◌≡◌, [], take, drop}
use Rattle.elf_image.specs.Rules.{overlap_after}
use Rattle.elf_image.proofs.rules.check_apart.Given as goal

-- the first overlap of what is left is the first of all
abbrev pub invariant-loop-i : goal.invariant-loop-i
invariant-loop-i l = overlap_after (take l.i l.loads) (drop l.i l.loads) ≡ overlap_after [] l.loads
