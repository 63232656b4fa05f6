use Rattle.std.proofs.Common.{◌≡◌, ◌+◌, ◌≤◌, false}
use Rattle.run_order.specs.InOrder.{task_run}
use Rattle.host_state.specs.MidTurns.{IsMidTurn}
use Rattle.hart_runner.specs.Stretches.{IsGoing, GoesOnBy}
use Rattle.hart_runner.proofs.stretching.go_on.Given as goal

abbrev pub invariant-loop : goal.invariant-loop
invariant-loop g l = record {
  turning : IsMidTurn (task_run l.state.task) l.no (l.made + l.more) l.state.past;
  most : l.made + l.more ≤ 512;
  open_now : l.state.short ≡ false;
  going : IsGoing l.state l.no l.hart;
  gone : GoesOnBy l.fn.state.task l.no l.more l.fn.state.past l.state.past l.fn.hart l.hart l.has_sets l.fn.tape.pieces.items
      l.tape.pieces.items;
  task : l.state.task ≡ l.fn.state.task;
}
