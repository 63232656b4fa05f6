use Rattle.std.proofs.Common.{◌∙◌, ap, sym}
use Rattle.flat_model.specs.World.{HartState}
use Rattle.hart_runner.proofs.Held.{over_leaves, parked_seated, deserted_leaves}
use Rattle.hart_runner.proofs.holding.hold_parked.Goals as goal

pub returns-then-gave_back-clause-held : goal.returns-then-gave_back-clause-held
returns-then-gave_back-clause-held g c =
    let is = c.in_ok-gave_back.ensures in
    let start = ap (λ s. s.hart) is.seat in
    let did = c.adopt-woken.ensures in (
      parked_seated c.enter_parked.new.seat.no c.args.state.now c.enter_parked.new.state _ _ c.args.seat.now.hart c.adopt-woken.new.hart _
          c.adopt-woken.result is.entered is.task did.hart did.woken (λ off. did.asleep off ∙ start) c.requires.begins c.requires.below
          (ap (λ s. s.asks.first) is.seat ∙ c.requires.quiet),
      is.wrote c.if-gave_back.true,
    )

pub returns-then-is_some-clause-held : goal.returns-then-is_some-clause-held
returns-then-is_some-clause-held g c =
    let is = c.in_ok-gave_back.ensures in
    over_leaves c.enter_parked.new.seat.no c.args.state.now c.enter_parked.new.state _ _ c.adopt-woken.new.hart c.group.result is.entered
    c.task.ensures.order c.adopt-woken.ensures.hart c.group.ensures.group (sym c.if-is_some.ensures)

pub returns-then-is_deserted-clause-held : goal.returns-then-is_deserted-clause-held
returns-then-is_deserted-clause-held g c =
    let is = c.in_ok-gave_back.ensures in
    let start = ap (λ s. s.hart) is.seat in
    deserted_leaves c.enter_parked.new.seat.no c.args.state.now c.enter_parked.new.state _ _ c.adopt-woken.new.hart is.entered
    c.task.ensures.order c.adopt-woken.ensures.hart
    (ap (λ (x : HartState). x.parked) (c.adopt-woken.ensures.asleep c.if-not-woken.true ∙ start) ∙ c.requires.asleep.parked)
    (c.is_deserted.ensures.finished c.if-is_deserted.true)

pub returns-clause-held : goal.returns-clause-held
returns-clause-held g c =
    let is = c.in_ok-gave_back.ensures in
    let start = ap (λ s. s.hart) is.seat in
    let did = c.adopt-woken.ensures in (
      parked_seated c.enter_parked.new.seat.no c.args.state.now c.enter_parked.new.state _ _ c.args.seat.now.hart c.adopt-woken.new.hart _
          c.adopt-woken.result is.entered is.task did.hart did.woken (λ off. did.asleep off ∙ start) c.requires.begins c.requires.below
          (ap (λ s. s.asks.first) is.seat ∙ c.requires.quiet),
      is.gots c.if-gave_back.false,
    )
