use Rattle.std.proofs.Common.{◌∙◌, sym, subst}
use Rattle.event_walk.specs.Matches.{classes_of}
use Rattle.instr_lists.specs.Delivery.{no_asks}
use Rattle.run_replay.specs.Lists.{AreLists}
use Rattle.run_replay.proofs.Lists.{serves, none_heard}
use Rattle.run_replay.proofs.stepping.deliver_step.Goals as goal

pub returns-then-len-eq0-clause-delivered : goal.returns-then-len-eq0-clause-delivered
returns-then-len-eq0-clause-delivered g c =
    none_heard (classes_of c.args.image.now) c.args.specs.now c.args.raw.now.events c.none.result.first no_asks
    c.args.attached.now (sym c.len.ensures.length ∙ c.if-len-eq0.true)

pub lookup-requires-clause-serves : goal.lookup-requires-clause-serves
lookup-requires-clause-serves g c =
    serves c.block_is_one.ensures.one c.args.image.now c.args.generation c.as_slice.result.now c.args.block.now
    c.args.lists.now
    (subst (λ s. AreLists c.args.image.now c.args.generation s c.args.lists.now) (sym c.as_slice.ensures.items) c.requires.lists)
    c.requires.block
