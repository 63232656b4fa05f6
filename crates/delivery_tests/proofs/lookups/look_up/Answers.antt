use Rattle.delivery_tests.proofs.Kept.{serves}
use Rattle.delivery_tests.proofs.lookups.look_up.Goals as goal

pub lookup-requires-clause-serves : goal.lookup-requires-clause-serves
lookup-requires-clause-serves c =
    serves c.block_is_one.ensures.one c.args.image.now c.args.generation c.args.sets.now c.args.block.now.pc c.args.block.now
    c.args.lists.now c.requires.lists c.requires.block
