use Rattle.std.proofs.Common.{◌≡◌, ◌+◌, ◌<◌, ◌∷◌, ◌∙◌, ℕ, true, refl, sym, ap, subst, arith, length, List, Option}
use Rattle.run_replay.proofs.Leaves.{left_idles}
use Rattle.run_replay.proofs.leaving.idles.Goals as goal

pub returns-in-Some : goal.returns-in-Some
returns-in-Some g c = record {
  idle = c.is_idle.ensures.idle
      ∙ left_idles c.args.state.now c.args.no c.in-Some.hart.now c.task.ensures.order c.requires.low c.in-Some.ensures.hart;
}
