use Rattle.std.proofs.Common.{◌≡◌, ◌≤◌, length}
use Rattle.run_replay.specs.Ahead.{IsAhead}
use Rattle.run_replay.specs.Following.{IsFollowing}
use Rattle.run_replay.proofs.replays.Replay.follow.Given as goal

abbrev pub invariant-loop-place : goal.invariant-loop-place
invariant-loop-place g l = record {
  following : IsFollowing l.self.state l.self.berths.items l.self.blocks;
  ahead : IsAhead l.place l.entries l.self.state.journal.entries;
  task : l.self.state.task ≡ l.fn.self.state.task;
  within : l.place ≤ length l.entries;
}
