use Rattle.std.proofs.Common.{◌∙◌, ap, sym}
use Rattle.host_state.specs.State.{StateValue}
use Rattle.run_controls.proofs.Parted.{taken_part, takes_up}
use Rattle.run_controls.proofs.parts.take_up.Goals as goal

pub returns-clause-part : goal.returns-clause-part
returns-clause-part g c =
    taken_part c.args.who c.in-Some.closing.plugin c.args.state.now c.take_closing.new.self (sym c.short.ensures.short ∙ c.if-short.false)
    c.requires.caught_up c.in-Some.ensures.taken.past (ap (λ (s : StateValue). s.task) c.in-Some.ensures.rest)

pub returns-clause-taken : goal.returns-clause-taken
returns-clause-taken g c =
    takes_up c.args.who c.args.state.now c.take_closing.new.self c.untold.result c.in-Some.closing.plugin _ _ c.in-Some.ensures.taken
    c.untold.ensures.plugin c.untold.ensures.notices c.untold.ensures.back
