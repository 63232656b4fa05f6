use Rattle.lock_step.proofs.Judging.{not_stuck}
use Rattle.lock_step.proofs.comparing.next_event.Goals as goal

pub unreachable-requires : goal.unreachable-requires
unreachable-requires c =
    not_stuck c.next.result c.in-Err-Because.field-0 c.in-Err-Because.field-0-0 c.args.walk.now c.next.new.self c.in-Err-Because.is
    c.in-Err-Because.field-0-is c.next.ensures.moved c.requires.runs
