use Rattle.std.proofs.Common.{◌≡◌, ◌+◌, ◌<◌, ◌∷◌, ◌∙◌, ℕ, true, refl, sym, ap, subst, arith, length, List, Option}
use Rattle.run_replay.specs.Following.{IsPlaced}
use Rattle.run_replay.proofs.Leaves.{nobody, now_idles}
use Rattle.run_replay.proofs.leaving.berth_idles.Goals as goal

pub returns-in-Some : goal.returns-in-Some
returns-in-Some g c = record {
  idle = c.is_idle.ensures.idle ∙ now_idles c.args.state.now c.args.no c.hart_now.result c.hart_now.ensures.now;
}

pub returns-in-None : goal.returns-in-None
returns-in-None g c = record {
  idle = absurd (nobody c.args.state.now c.args.no c.task.ensures.order c.requires.low c.requires.stays
      (subst (IsPlaced c.args.state.now.task c.args.no c.args.state.now.past) (sym c.in-None.ensures.berth) c.requires.place));
}
