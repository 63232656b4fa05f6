use Rattle.block_finder.proofs.Walking.{all_to_come}
use Rattle.block_finder.proofs.walks.Walk.new.Goals as goal

pub returns-clause-all : goal.returns-clause-all
returns-clause-all c = λ image. all_to_come image c.args.pc c.words_in_reach.result c.words_in_reach.ensures
