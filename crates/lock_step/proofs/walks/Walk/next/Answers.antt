use Rattle.std.proofs.Common.{◌+◌, ◌∙◌, length, ap, sym, arith}
use Rattle.lock_step.specs.Kept.{LoneState}
use Rattle.lock_step.specs.Walks.{WalkState}
use Rattle.lock_step.proofs.Walking.{seeks, ends, gives_on, gives_one, sticks_here, makes_one, view_stays}
use Rattle.lock_step.proofs.walks.Walk.next.Goals as goal

pub returns-then-self-events : goal.returns-then-self-events
returns-then-self-events c =
    let was = c.self.inside in
    let same = ap length c.events.ensures.events in
    record {
      moved = gives_one c.args.self.now was.run was.entries.now was.place was.made was.passed was.given.items c.give-event.new.given.items
          c.give-event.result (sym c.self.view_is) c.self.invariant (omega (arith, same, c.if-self-events.true)) c.give-event.ensures.event
          c.give-event.ensures.given c.give-event.ensures.few;
    }

pub returns-in_default : goal.returns-in_default
returns-in_default c =
    let was = c.self.inside in
    let same = ap length c.events.ensures.events in
    record {
      moved = (
        c.self.view_is,
        ends was.run was.entries.now c.seek.new.place c.seek.new.made was.passed was.given.items
            (seeks was.run was.entries.now was.place was.made c.seek.new.place c.seek.new.made was.passed was.given.items c.self.invariant
            c.seek.ensures.at c.seek.ensures.same)
            (omega (arith, same, c.if-self-events.false)) c.in_default.ensures.next,
      );
    }

pub returns-then-not-can_step : goal.returns-then-not-can_step
returns-then-not-can_step c =
    let was = c.self.inside in
    let same = ap length c.events.ensures.events in
    let seen : LoneState → WalkState = λ r. record { machine = r.machine; mode = r.mode; entries = was.entries.now; given = was.given.items } in
    record {
      moved = (
        ap seen c.can_step.ensures.same ∙ c.self.view_is,
        sticks_here was.run c.can_step.new.self was.entries.now was.place was.made c.seek.new.place c.seek.new.made was.passed c.in-Some.hart
            was.given.items c.can_step.ensures.same c.self.invariant (omega (arith, same, c.if-self-events.false)) c.seek.ensures.at
            c.seek.ensures.same c.in-Some.ensures.next (sym c.if-not-can_step.ensures.can),
      );
    }

pub overflow_add-self : goal.overflow_add-self
overflow_add-self c = omega (arith, c.in-Some.ensures.fits)

pub invariant_of-self-2 : goal.invariant_of-self-2
invariant_of-self-2 c =
    let was = c.self.inside in
    let same = ap length c.events.ensures.events in
    gives_on c.step.new.self was.entries.now c.seek.new.place (c.seek.new.made + 1) 0 c.give-event-2.new.passed was.given.items
    c.give-event-2.new.given.items c.give-event-2.result
    (makes_one was.run c.can_step.new.self c.step.new.self was.entries.now was.place was.made c.seek.new.place c.seek.new.made was.passed
    c.in-Some.hart was.given.items c.can_step.ensures.same c.self.invariant (omega (arith, same, c.if-self-events.false))
    c.seek.ensures.at c.seek.ensures.same c.in-Some.ensures.next (sym c.if-not-can_step.ensures.can) c.in_ok-step.ensures.stepped)
    c.in_ok-step.ensures.some c.give-event-2.ensures.event c.give-event-2.ensures.passed c.give-event-2.ensures.given

pub returns : goal.returns
returns c =
    let was = c.self.inside in
    let same = ap length c.events.ensures.events in
    record {
      moved = gives_one c.args.self.now c.step.new.self was.entries.now c.seek.new.place (c.seek.new.made + 1) 0 was.given.items
          c.give-event-2.new.given.items c.give-event-2.result
          (view_stays c.args.self.now was.run c.can_step.new.self c.step.new.self was.entries.now c.in-Some.hart was.given.items
          c.can_step.ensures.same c.self.view_is c.in_ok-step.ensures.stepped)
          (makes_one was.run c.can_step.new.self c.step.new.self was.entries.now was.place was.made c.seek.new.place c.seek.new.made
          was.passed c.in-Some.hart was.given.items c.can_step.ensures.same c.self.invariant
          (omega (arith, same, c.if-self-events.false)) c.seek.ensures.at c.seek.ensures.same c.in-Some.ensures.next
          (sym c.if-not-can_step.ensures.can) c.in_ok-step.ensures.stepped)
          c.in_ok-step.ensures.some c.give-event-2.ensures.event c.give-event-2.ensures.given c.give-event-2.ensures.few;
    }
