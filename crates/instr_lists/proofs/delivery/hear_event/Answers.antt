use Rattle.instr_lists.proofs.Events.{slots_there, hears}
use Rattle.instr_lists.proofs.delivery.hear_event.Goals as goal

pub hear_all-requires : goal.hear_all-requires
hear_all-requires g c =
    record {
      there = slots_there c.args.attached.now c.args.list.now c.args.e.now.what c.slots.result.now c.requires.these c.slots.ensures.heard;
    }

pub returns-clause-heard : goal.returns-clause-heard
returns-clause-heard g c =
    hears c.args.attached.now c.args.list.now c.args.e.now c.slots.result.now c.args.asks.now.first _ c.requires.these c.slots.ensures.heard
    c.hear_all.result c.hear_all.ensures.acted
