use Rattle.std.proofs.Common.{◌≡◌, ◌==◌, true, Option, subst, arith}
use Rattle.std.proofs.lemmas.Bool.Decides.{nat_tests}
use Rattle.flat_model.specs.declared.events.Event.{Event}
use Rattle.lock_step.specs.Comparing.{HasCome}
use Rattle.lock_step.proofs.Judging.{finds, nearer}
use Rattle.lock_step.proofs.comparing.next_of.Goals as goal

pub returns-then-event-hart : goal.returns-then-event-hart
returns-then-event-hart c =
    let at = c.if-event-hart.true in
    let is : (c.in-Some.event.hart == c.args.hart) ≡ true = grind (arith, nat_tests, at) in
    record {
      found = finds c.args.hart c.args.walk.now c.loop-event.walk c.next_event.new.walk c.in-Some.event c.requires.hart
          c.loop-event.invariant
          (subst (λ (o : Option Event). HasCome o c.loop-event.walk c.next_event.new.walk) c.in-Some.is c.in_ok-event.ensures.come) is;
    }

pub loop-event-smaller : goal.loop-event-smaller
loop-event-smaller c =
    nearer c.args.hart c.loop-event.walk c.next_event.new.walk c.in-Some.event
    (subst (λ (o : Option Event). HasCome o c.loop-event.walk c.next_event.new.walk) c.in-Some.is c.in_ok-event.ensures.come)
