use Rattle.std.proofs.Common.{◌≡◌, ◌+◌, ◌<◌, ◌≤◌, ◌∙◌, ℕ, subst, sym, arith, length}
use Rattle.run_order.specs.InOrder.{Task, task_run}
use Rattle.run_replay.specs.Ahead.{IsAhead}
use Rattle.run_replay.specs.Replays.{IsRefusedAs}
use Rattle.run_replay.proofs.replays.Replay.follow.Goals as goal

pub returns-in-Err-clause-broken : goal.returns-in-Err-clause-broken
returns-in-Err-clause-broken g c =
    subst (λ (t : Task). IsRefusedAs (task_run t) c.args.entries.now c.in-Err.why) c.loop-place.invariant.task c.in-Err.ensures.broken

pub loop-place-preserved : goal.loop-place-preserved
loop-place-preserved g c =
    let was = c.loop-place.invariant in
    let did = c.in-Ok.ensures in
    record {
      following = did.following;
      ahead = did.ahead;
      task = did.task ∙ was.task;
      within = omega (arith, c.loop-place-test.true, c.loop-place.auto.place-end);
    }

pub returns-clause-ahead : goal.returns-clause-ahead
returns-clause-ahead g c =
    let was = c.loop-place.invariant in
    let all : c.loop-place.place ≡ length c.args.entries.now =
    omega (arith, was.within, c.loop-place-test.false, c.loop-place.auto.place-end) in
    subst (λ (k : ℕ). IsAhead k c.args.entries.now c.loop-place.self.state.journal.entries) all was.ahead
