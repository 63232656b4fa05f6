use Rattle.report_text.proofs.LeftHarts.{hart_is_left}
use Rattle.host_cli.proofs.summary.left_hart.Goals as goal

pub unreachable-requires : goal.unreachable-requires
unreachable-requires g c =
    let there = hart_is_left c.args.state.now c.task.ensures.order c.requires.whole c.args.no c.requires.hart in
    cc (there, c.in_default.ensures.hart)

pub returns : goal.returns
returns g c =
    let there = hart_is_left c.args.state.now c.task.ensures.order c.requires.whole c.args.no c.requires.hart in
    record { hart = cc (there, c.in-Some.ensures.hart) }
