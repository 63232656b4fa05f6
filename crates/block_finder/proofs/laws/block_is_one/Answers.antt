use Rattle.block_finder.proofs.Sites.{block_is_one}
use Rattle.block_finder.proofs.laws.block_is_one.Goals as goal

pub returns : goal.returns
returns c = record { one = block_is_one }
