use Rattle.std.proofs.Common.{◌≡◌, ◌+◌, length}
use Rattle.flat_model.specs.Blocks.{length_of}
use Rattle.block_finder.specs.Block.{AreSites}
use Rattle.block_finder.specs.Walks.{IsWithin, to_come}
use Rattle.block_finder.proofs.finding.find.Given as goal

-- the words so far and those to come are all the words of the block
abbrev pub invariant-loop-site : goal.invariant-loop-site
invariant-loop-site l = record {
  first : l.walk.first ≡ l.pc;
  within : IsWithin l.walk;
  count : length l.sites.items ≡ l.walk.place;
  placed : AreSites l.image l.pc l.sites.items;
  all : l.walk.place + to_come l.image l.walk ≡ length_of l.image l.pc;
}

abbrev pub decreases-loop-site : goal.decreases-loop-site
decreases-loop-site l = to_come l.image l.walk
