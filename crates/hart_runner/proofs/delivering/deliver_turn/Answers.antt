use Rattle.std.proofs.Common.{◌∙◌, sym, subst}
use Rattle.event_walk.specs.Matches.{classes_of}
use Rattle.instr_lists.specs.Delivery.{no_asks}
use Rattle.hart_runner.specs.Lists.{AreLists}
use Rattle.hart_runner.proofs.Lists.{serves, none_heard}
use Rattle.hart_runner.proofs.delivering.deliver_turn.Goals as goal

pub returns-then-len-eq0-clause-delivered : goal.returns-then-len-eq0-clause-delivered
returns-then-len-eq0-clause-delivered g c =
    none_heard (classes_of c.args.seat.now.image.value) c.args.seat.now.specs c.args.seat.now.raw.events c.none-seat.result.first no_asks
    c.args.seat.now.attached (sym c.len.ensures.length ∙ c.if-len-eq0.true)

pub lookup-requires-clause-serves : goal.lookup-requires-clause-serves
lookup-requires-clause-serves g c =
    serves c.block_is_one.ensures.one c.args.seat.now.image.value c.args.seat.now.generation c.as_slice.result.now c.args.block.now
    c.args.lists.now
    (subst (λ s. AreLists c.args.seat.now.image.value c.args.seat.now.generation s c.args.lists.now) (sym c.as_slice.ensures.items)
    c.requires.lists)
    c.requires.block
