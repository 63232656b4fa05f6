use Rattle.std.proofs.Common.{◌≡◌, false}
use Rattle.flat_model.specs.Log.{steps}
use Rattle.run_replay.specs.Following.{IsTurning}
use Rattle.run_replay.proofs.turning.make_steps.Given as goal

abbrev pub invariant-loop-made : goal.invariant-loop-made
invariant-loop-made g l = record {
  turning : IsTurning l.state.task l.no l.made l.state.past l.berth l.blocks;
  open_now : l.state.short ≡ false;
  task : l.state.task ≡ l.fn.state.task;
  gone : l.state.past ≡ steps l.no l.made l.fn.state.past;
}
