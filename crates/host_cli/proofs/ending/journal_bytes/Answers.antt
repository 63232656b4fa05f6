use Rattle.run_order.specs.InOrder.{task_run}
use Rattle.host_cli.proofs.Written.{entries_few}
use Rattle.host_cli.proofs.ending.journal_bytes.Goals as goal

pub write-requires : goal.write-requires
write-requires g c =
    rw c.journal.ensures.journal
    (entries_few (task_run c.args.state.now.task) c.args.state.now.past c.args.state.now.journal.entries c.task.ensures.order.legal
    c.task.ensures.order.journal)
