use Rattle.delivery_tests.proofs.Kept.{serves}
use Rattle.delivery_tests.proofs.runs.deliver_block.Goals as goal

pub lookup-requires-2-clause-serves : goal.lookup-requires-2-clause-serves
lookup-requires-2-clause-serves c =
    serves c.block_is_one.ensures.one c.args.image.now 0 c.args.sets.now c.args.pc c.in_ok-block.block.now c.args.lists.now c.requires.lists
    c.in_ok-block.ensures.block
