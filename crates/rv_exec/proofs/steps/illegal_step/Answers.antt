use Rattle.rv_exec.proofs.Stepping.{illegal_step}
use Rattle.rv_exec.proofs.steps.illegal_step.Goals as goal

pub returns-clause-step : goal.returns-clause-step
returns-clause-step c =
    illegal_step c.args.image.now c.args.limit c.args.no c.args.hart.now c.begin.new.hart c.fail.new.hart c.args.raw.now
    c.begin.new.raw c.fail.new.raw c.args.word c.args.n c.requires.awake c.requires.running c.requires.fetched c.requires.illegal
    c.requires.block c.begin.ensures.begun c.begin.ensures.logged c.fail.ensures.failed c.fail.ensures.logged
