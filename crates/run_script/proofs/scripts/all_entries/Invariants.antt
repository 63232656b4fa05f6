-- The entries so far with those of the lines that are left are those of the script.
use Rattle.std.proofs.Common.{◌≡◌, ◌+◌, ◌≤◌, length}
use Rattle.std.specs.Str.Lines.{lines}
use Rattle.run_script.specs.Scripts.{script}
use Rattle.run_script.proofs.Entries.{from_here}
use Rattle.run_script.proofs.scripts.all_entries.Given as goal

abbrev pub invariant-loop-rest : goal.invariant-loop-rest
invariant-loop-rest l =
    (from_here l.list.items (l.number + 1) l.least (lines l.rest) ≡ script l.bytes)
    × (l.number + length l.rest ≤ length l.bytes)

abbrev pub decreases-loop-rest : goal.decreases-loop-rest
decreases-loop-rest l = length l.rest
