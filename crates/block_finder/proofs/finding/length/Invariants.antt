use Rattle.std.proofs.Common.{◌≡◌, ◌+◌}
use Rattle.flat_model.specs.Blocks.{length_of}
use Rattle.block_finder.specs.Walks.{IsWithin, to_come}
use Rattle.block_finder.proofs.finding.length.Given as goal

-- the words so far and those to come are all the words of the block
abbrev pub invariant-loop : goal.invariant-loop
invariant-loop l = record {
  within : IsWithin l.walk;
  all : l.walk.place + to_come l.image l.walk ≡ length_of l.image l.pc;
}

abbrev pub decreases-loop : goal.decreases-loop
decreases-loop l = to_come l.image l.walk
