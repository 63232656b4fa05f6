-- The sum as far as the loop has come.
use Rattle.std.proofs.Common.{◌≡◌, take, map}
use Rattle.flat_model.specs.Columns.{entry_sum}
use Rattle.score_boards.proofs.sum.Given as goal

abbrev pub invariant-loop-parked : goal.invariant-loop-parked
invariant-loop-parked l = l.total ≡ entry_sum l.entry (map (λ parked. parked.column) (take l.parked-index l.columns))
