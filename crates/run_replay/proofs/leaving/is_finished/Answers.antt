use Rattle.std.proofs.Common.{◌≡◌, ◌+◌, ◌<◌, ◌∷◌, ◌∙◌, ℕ, true, refl, sym, ap, subst, arith, length, List, Option}
use Rattle.run_replay.proofs.Leaves.{ended_finishes, over_finishes, awake_stays, asleep_by_all}
use Rattle.run_replay.proofs.leaving.is_finished.Goals as goal

pub returns-then-has_ended : goal.returns-then-has_ended
returns-then-has_ended g c = record {
  finished = ended_finishes c.args.state.now c.args.no c.args.hart.now c.task.ensures.order c.requires.is (sym
      c.if-has_ended.ensures.ended);
}

pub returns-then-is_over : goal.returns-then-is_over
returns-then-is_over g c = record {
  finished = over_finishes c.args.state.now c.args.no c.args.hart.now c.task.ensures.order c.requires.is (sym c.if-is_over.ensures.over);
}

pub returns-then-not-is_parked : goal.returns-then-not-is_parked
returns-then-not-is_parked g c = record {
  finished = awake_stays c.args.state.now c.args.no c.args.hart.now c.task.ensures.order c.requires.is
      (sym c.if-has_ended.ensures.ended) (sym c.if-is_over.ensures.over) (sym c.if-not-is_parked.ensures.parked);
}

pub returns : goal.returns
returns g c = record {
  finished = c.all_idle.ensures.idle ∙ asleep_by_all c.args.state.now c.args.no c.args.hart.now c.task.ensures.order c.requires.is
      (sym c.if-has_ended.ensures.ended) (sym c.if-is_over.ensures.over) (sym c.if-not-is_parked.ensures.parked);
}
