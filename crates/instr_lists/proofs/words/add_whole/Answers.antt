use Rattle.instr_lists.proofs.Adding.{attached_add, whole_add}
use Rattle.instr_lists.proofs.Told.{whole_there, whole_heard}
use Rattle.instr_lists.proofs.words.add_whole.Goals as goal

pub add_all-requires-clause-there : goal.add_all-requires-clause-there
add_all-requires-clause-there g c =
    whole_there c.args.attached.now c.args.list.now c.whole_slots.result.now c.requires.these c.whole_slots.ensures.slots

pub add_all-requires-clause-add : goal.add_all-requires-clause-add
add_all-requires-clause-add g c =
    let listed = c.args.list.now in
    attached_add c.args.attached.now listed.sets c.whole_slots.result.now c.requires.these
    (whole_add listed.block listed.sets c.whole_slots.result.now c.whole_slots.ensures.slots c.requires.adds)

pub returns-clause-heard : goal.returns-clause-heard
returns-clause-heard g c =
    whole_heard c.args.attached.now c.args.list.now c.whole_slots.result.now c.args.asks.now.first _ c.requires.these c.requires.adds
    c.whole_slots.ensures.slots c.add_all.ensures.acted
