use Rattle.instr_lists.proofs.Events.{slots_there}
use Rattle.instr_lists.proofs.Adding.{attached_add, added}
use Rattle.instr_lists.proofs.words.add_start.Goals as goal

pub add_all-requires-clause-there : goal.add_all-requires-clause-there
add_all-requires-clause-there g c =
    slots_there c.args.attached.now c.args.list.now _ c.start_slots.result.now c.requires.these (c.start_slots.ensures.heard 0)

pub add_all-requires-clause-add : goal.add_all-requires-clause-add
add_all-requires-clause-add g c =
    attached_add c.args.attached.now c.args.list.now.sets c.start_slots.result.now c.requires.these
    (c.start_slots.ensures.add c.requires.adds)

pub returns-clause-heard : goal.returns-clause-heard
returns-clause-heard g c = λ classes has e n is.
    added c.args.attached.now c.args.list.now c.start_slots.result.now c.args.asks.now.first _ _ c.requires.these
    (c.start_slots.ensures.heard n) c.add_all.ensures.acted classes has e is
