use Rattle.host_state.proofs.Gathering.{one_attached, own_taken, others_as_before}
use Rattle.host_state.proofs.states.HostState.attach_one.Goals as goal

pub returns-in-Some-clause-attached : goal.returns-in-Some-clause-attached
returns-in-Some-clause-attached g c =
    rw (c.put.ensures.put, c.put-in-Some.ensures.put)
    (one_attached c.args.no c.args.plugin _ _ _ _ c.in-Some.ensures.taken c.plugin-number.result _ _ c.plugin-number.ensures.number
    c.requires.attached c.requires.specs)

pub returns-in-Some-clause-none : goal.returns-in-Some-clause-none
returns-in-Some-clause-none g c = own_taken c.args.no c.args.plugin _ _ _ _ c.in-Some.ensures.taken

pub returns-in-Some-clause-others : goal.returns-in-Some-clause-others
returns-in-Some-clause-others g c = others_as_before c.args.no c.args.plugin _ _ _ _ c.in-Some.ensures.taken
