use Rattle.std.proofs.Common.{◌≡◌, map, take}
use Rattle.report_text.specs.Merging.{joined}
use Rattle.report_text.proofs.merging.together.Given as goal

abbrev pub invariant-loop-tally : goal.invariant-loop-tally
invariant-loop-tally l = l.rows.items ≡ joined (map (λ tally. tally.items) (take l.tally-index l.tallies))
