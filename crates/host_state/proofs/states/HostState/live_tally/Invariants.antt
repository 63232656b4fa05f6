use Rattle.std.proofs.Common.{◌≡◌, map}
use Rattle.std.specs.List.{range_with_len}
use Rattle.watcher_api.specs.Attachment.{box_at}
use Rattle.run_order.specs.Sets.{attachment_of}
use Rattle.run_order.specs.InOrder.{task_run}
use Rattle.host_state.specs.Registered.{box_rows}
use Rattle.host_state.proofs.states.HostState.live_tally.Given as goal

abbrev pub invariant-loop-hart : goal.invariant-loop-hart
invariant-loop-hart g l = map (λ v. v.items) l.lists.items
    ≡ map (λ h. box_rows (box_at l.sub (attachment_of (task_run l.fn.self.task) l.plugin h l.fn.self.past))) (range_with_len 0 l.hart)
