use Rattle.std.proofs.Common.{◌≡◌, map}
use Rattle.std.specs.List.{range_with_len}
use Rattle.flat_model.specs.Columns.{entry_sum}
use Rattle.run_order.specs.Sets.{attachment_of}
use Rattle.run_order.specs.InOrder.{task_run}
use Rattle.host_state.proofs.states.HostState.live_sum.Given as goal

abbrev pub invariant-loop-hart : goal.invariant-loop-hart
invariant-loop-hart g l = l.total ≡ entry_sum l.entry
    (map (λ h. (attachment_of (task_run l.fn.self.task) l.plugin h l.fn.self.past).column) (range_with_len 0 l.hart))
