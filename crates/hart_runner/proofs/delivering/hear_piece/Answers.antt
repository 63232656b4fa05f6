use Rattle.std.proofs.Common.{sym, subst}
use Rattle.hart_runner.specs.Lists.{AreLists}
use Rattle.hart_runner.proofs.Lists.{serves, block_at}
use Rattle.hart_runner.proofs.delivering.hear_piece.Goals as goal

pub lookup-requires-2-clause-serves : goal.lookup-requires-2-clause-serves
lookup-requires-2-clause-serves g c =
    serves c.block_is_one.ensures.one c.args.image.now c.args.generation c.as_slice.result.now c.in_ok-block.block.now c.args.lists.now
    (subst (λ s. AreLists c.args.image.now c.args.generation s c.args.lists.now) (sym c.as_slice.ensures.items) c.requires.lists)
    (block_at c.args.image.now c.args.piece.now.pc c.in_ok-block.block.now c.in_ok-block.ensures.block)
