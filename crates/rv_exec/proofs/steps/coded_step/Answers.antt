use Rattle.flat_model.specs.Instruction.{ends_block}
use Rattle.flat_model.specs.Effect.{effect_of}
use Rattle.flat_model.specs.Outcome.{Outcome, outcome}
use Rattle.guest_memory.specs.Memory.{spans_in, harts_of}
use Rattle.rv_exec.specs.Sharing.{shared_of}
use Rattle.rv_exec.proofs.Registers.{registers_of}
use Rattle.rv_exec.proofs.Stepping.{coded_step}
use Rattle.rv_exec.proofs.Afterwards.{LeftForNext, left_for_next, finished_on, no_call, goes_straight, tells_few, few_events}
use Rattle.rv_exec.proofs.steps.coded_step.Goals as goal

abbrev the_outcome : goal.After-carry_out → Outcome
the_outcome c =
    outcome (spans_in c.args.memory.now) (harts_of c.args.memory.now) c.args.no c.begin.new.hart
    (shared_of c.args.memory.now c.args.services.now) (effect_of c.begin.new.hart c.args.ins.now)

pub carry_out-requires-clause-registers : goal.carry_out-requires-clause-registers
carry_out-requires-clause-registers c = registers_of c.args.word c.args.ins.now c.requires.decoded

pub returns-clause-step : goal.returns-clause-step
returns-clause-step c =
    coded_step c.args.image.now c.args.limit c.args.no c.args.hart.now c.carry_out.new.hart
    (shared_of c.args.memory.now c.args.services.now) c.args.memory.now c.carry_out.new.memory c.carry_out.new.services
    c.args.raw.now c.begin.new.raw c.carry_out.new.raw c.args.word c.args.ins.now c.args.n
    c.requires.awake c.requires.running c.requires.going_on c.requires.memory c.requires.fetched c.requires.decoded c.requires.block
    c.begin.ensures.logged (rw c.begin.ensures.begun at c.carry_out.ensures.ended)

next : (c : goal.After-carry_out) → LeftForNext c.args.limit c.args.hart.now c.carry_out.new.hart
next c =
    left_for_next c.args.limit c.args.hart.now c.begin.new.hart c.carry_out.new.hart (ends_block c.args.ins.now) (the_outcome c).done
    c.requires.awake c.requires.below_limit c.begin.ensures.begun c.begin.ensures.pc c.begin.ensures.aligned
    (goes_straight (spans_in c.args.memory.now) (harts_of c.args.memory.now) c.args.no c.begin.new.hart
    (shared_of c.args.memory.now c.args.services.now) c.args.ins.now)
    c.carry_out.ensures.ended.hart

pub returns-clause-counted : goal.returns-clause-counted
returns-clause-counted c = (next c).counted

pub returns-clause-awake : goal.returns-clause-awake
returns-clause-awake c = (next c).awake

pub returns-clause-within_limit : goal.returns-clause-within_limit
returns-clause-within_limit c = (next c).within_limit

pub returns-clause-straight : goal.returns-clause-straight
returns-clause-straight c = (next c).straight

pub returns-clause-few : goal.returns-clause-few
returns-clause-few c =
    few_events c.args.hart.now c.carry_out.new.hart c.args.raw.now.events c.begin.new.raw.events c.carry_out.new.raw.events c.args.no
    c.begin.new.hart.steps (the_outcome c).told c.begin.ensures.few c.begin.ensures.fewer
    (tells_few (spans_in c.args.memory.now) (harts_of c.args.memory.now) c.args.no c.begin.new.hart
    (shared_of c.args.memory.now c.args.services.now) (effect_of c.begin.new.hart c.args.ins.now))
    c.carry_out.ensures.ended.logs.events

pub returns-clause-steady : goal.returns-clause-steady
returns-clause-steady c = λ goes on.
    c.carry_out.ensures.quiet
    (no_call c.args.ins.now (finished_on c.args.limit c.begin.new.hart c.carry_out.new.hart (ends_block c.args.ins.now) (the_outcome c).done
    c.carry_out.ensures.ended.hart goes on))
