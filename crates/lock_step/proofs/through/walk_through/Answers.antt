use Rattle.lock_step.proofs.Judging.{moved_one, nearer}
use Rattle.lock_step.proofs.through.walk_through.Goals as goal

pub on-smaller : goal.on-smaller
on-smaller c =
    nearer 0 c.on.walk c.next.new.self c.in-Ok-Event.field-0-0
    (moved_one c.next.result c.in-Ok-Event.field-0 c.in-Ok-Event.field-0-0 c.on.walk c.next.new.self c.in-Ok-Event.is
    c.in-Ok-Event.field-0-is c.next.ensures.moved)
