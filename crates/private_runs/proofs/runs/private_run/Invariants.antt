use Rattle.std.proofs.Common.{◌≡◌, ◌<◌, ◌≤◌, ◌+◌, ◌*◌, true, false, None, length}
use Rattle.flat_model.specs.Blocks.{length_of}
use Rattle.flat_model.specs.Step.{starts_block}
use Rattle.private_runs.specs.Runs.{ArePrivateSteps, AreOfRun}
use Rattle.private_runs.proofs.runs.private_run.Given as goal

-- the steps so far belong to the run, and the hart is inside a block behind them
abbrev pub invariant-loop-made : goal.invariant-loop-made
invariant-loop-made l = record {
  steps : ArePrivateSteps l.image l.limit l.no l.made l.initial.hart l.hart l.initial.raw.events l.raw.events;
  private : AreOfRun l.image l.limit l.no l.made l.initial.hart;
  running : l.hart.ending ≡ None;
  below : l.hart.steps < l.limit;
  awake : l.hart.parked ≡ false;
  block : starts_block l.hart ≡ true → l.n ≡ length_of l.image l.hart.pc;
  inside : 0 < l.made → starts_block l.hart ≡ false;
  kept : l.raw.kept ≡ l.initial.raw.kept;
  counted : l.hart.steps ≡ l.initial.hart.steps + l.made;
  pc : l.hart.pc ≡ l.initial.hart.pc + 4 * l.made;
  since : l.hart.since ≡ l.initial.hart.since + l.made;
  unchanged : l.made ≡ 0 → l.hart ≡ l.initial.hart;
  untold : l.made ≡ 0 → l.raw ≡ l.initial.raw;
  few : length l.raw.events ≤ length l.initial.raw.events + (l.made + 2);
}
