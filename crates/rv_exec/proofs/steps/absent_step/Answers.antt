use Rattle.rv_exec.proofs.Stepping.{absent_step}
use Rattle.rv_exec.proofs.steps.absent_step.Goals as goal

pub returns-clause-step : goal.returns-clause-step
returns-clause-step c =
    absent_step c.args.image.now c.args.limit c.args.no c.args.hart.now c.begin_absent.new.hart c.fail.new.hart c.args.raw.now
    c.begin_absent.new.raw c.fail.new.raw c.requires.awake c.requires.running c.requires.absent c.begin_absent.ensures.begun
    c.begin_absent.ensures.logged c.fail.ensures.failed c.fail.ensures.logged
