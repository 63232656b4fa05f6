use Rattle.std.proofs.Common.{ap, ◌∙◌}
use Rattle.std.proofs.lemmas.Option.{same_Some}
use Rattle.hart_runner.proofs.Held.{left_hold}
use Rattle.hart_runner.proofs.parts.take_still_part.Goals as goal

pub returns-in-Some-take-clause-hold : goal.returns-in-Some-take-clause-hold
returns-in-Some-take-clause-hold g c =
    rw c.in-Some.is
    (left_hold c.in-Some.seat.no c.in-Some-take.seat.no c.args.state.now c.hold_still.new.state c.leave.new.state
    c.in_ok-hold.ensures.hold
    (ap (λ s. s.no) (same_Some c.in-Some-take.seat c.hold_still.new.seat c.in-Some-take.ensures.value) ∙ c.in_ok-hold.ensures.keeps.number)
    c.leave.ensures.left c.leave.ensures.caught_up c.leave.ensures.task)
