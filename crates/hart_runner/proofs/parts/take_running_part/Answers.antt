use Rattle.std.proofs.Common.{ℕ, ap, subst}
use Rattle.std.proofs.lemmas.Option.{same_Some}
use Rattle.hart_runner.specs.Holds.{IsHold}
use Rattle.hart_runner.proofs.Held.{left_hold}
use Rattle.hart_runner.proofs.parts.take_running_part.Goals as goal

pub returns-in-Some-take-clause-hold : goal.returns-in-Some-take-clause-hold
returns-in-Some-take-clause-hold g c =
    rw c.in-Some.is
    (subst (λ (h : ℕ). IsHold h c.args.state.now c.leave.new.state) (ap (λ s. s.no) c.in_ok-hold.ensures.seat)
    (left_hold c.hold_running.new.seat.no c.in-Some-take.seat.no c.args.state.now c.hold_running.new.state c.leave.new.state
    c.in_ok-hold.ensures.hold
    (ap (λ s. s.no) (same_Some c.in-Some-take.seat c.hold_running.new.seat c.in-Some-take.ensures.value))
    c.leave.ensures.left c.leave.ensures.caught_up c.leave.ensures.task))
