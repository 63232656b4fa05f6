use Rattle.std.proofs.Common.{◌∙◌, [], not, ap, arith}
use Rattle.flat_model.specs.Instruction.{ends_block}
use Rattle.flat_model.specs.Effect.{effect_of}
use Rattle.rv_exec.specs.Going.{EndsAlone, done_alone}
use Rattle.rv_exec.proofs.Registers.{registers_of}
use Rattle.rv_exec.proofs.Stepping.{lone_step}
use Rattle.rv_exec.proofs.Afterwards.{LeftForNext, left_for_next, lone_straight, few_events}
use Rattle.rv_exec.proofs.steps.lone_step.Goals as goal

pub alone-requires-clause-registers : goal.alone-requires-clause-registers
alone-requires-clause-registers c = registers_of c.args.word c.args.ins.now c.requires.decoded

ended : (c : goal.After-alone)
    → EndsAlone (effect_of c.begin.new.hart c.args.ins.now) c.args.limit c.args.no
    (ends_block c.args.ins.now) c.begin.new.hart c.alone.new.hart
    c.begin.new.raw c.alone.new.raw
ended c = c.alone.ensures.ended (c.alone.ensures.did ∙ ap not c.requires.lone)

next : (c : goal.After-alone) → LeftForNext c.args.limit c.args.hart.now c.alone.new.hart
next c =
    left_for_next c.args.limit c.args.hart.now c.begin.new.hart c.alone.new.hart (ends_block c.args.ins.now)
    (done_alone (effect_of c.begin.new.hart c.args.ins.now))
    c.requires.awake c.requires.below_limit c.begin.ensures.begun c.begin.ensures.pc c.begin.ensures.aligned
    (lone_straight c.begin.new.hart c.args.ins.now (ended c).alone)
    (ended c).hart

pub returns-clause-step : goal.returns-clause-step
returns-clause-step c =
    lone_step c.args.image.now c.args.limit c.args.no c.args.hart.now c.begin.new.hart c.alone.new.hart c.args.raw.now c.begin.new.raw
    c.alone.new.raw c.args.word c.args.ins.now c.args.n c.requires.awake c.requires.running c.requires.fetched c.requires.decoded
    c.requires.block c.begin.ensures.begun c.begin.ensures.logged (ended c)

pub returns-clause-kept : goal.returns-clause-kept
returns-clause-kept c = (ended c).logs.kept ∙ c.begin.ensures.logged.kept

pub returns-clause-few : goal.returns-clause-few
returns-clause-few c =
    few_events c.args.hart.now c.alone.new.hart c.args.raw.now.events c.begin.new.raw.events c.alone.new.raw.events c.args.no
    c.begin.new.hart.steps [] c.begin.ensures.few c.begin.ensures.fewer (omega arith) (ended c).logs.events

pub returns-clause-awake : goal.returns-clause-awake
returns-clause-awake c = (next c).awake

pub returns-clause-counted : goal.returns-clause-counted
returns-clause-counted c = (next c).counted

pub returns-clause-within_limit : goal.returns-clause-within_limit
returns-clause-within_limit c = (next c).within_limit

pub returns-clause-straight : goal.returns-clause-straight
returns-clause-straight c = (next c).straight
