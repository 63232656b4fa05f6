use Rattle.std.proofs.Common.{ap, ◌∙◌}
use Rattle.std.specs.Prelude.{is_some}
use Rattle.flat_model.specs.World.{HartState}
use Rattle.hart_runner.proofs.Held.{same_hart, ended_seated, ended_leaves}
use Rattle.hart_runner.proofs.holding.hold_ended.Goals as goal

pub returns-then-gave_back-clause-held : goal.returns-then-gave_back-clause-held
returns-then-gave_back-clause-held g c =
    let is = c.in_ok-gave_back.ensures in
    let hart = ap (λ s. s.hart) is.seat in (
      ended_seated c.enter.new.seat.no c.args.state.now c.enter.new.state _ _ c.enter.new.seat.hart _ is.entered is.task
          (same_hart c.args.state.now.task c.args.state.now.past c.args.seat.now.no c.enter.new.seat.no c.args.seat.now.hart _
          (ap (λ s. s.no) is.seat) hart (c.requires.back.hart c.requires.awake))
          (ap (λ (x : HartState). is_some x.ending) hart ∙ c.requires.ended) is.asks,
      is.wrote c.if-gave_back.true,
    )

pub returns-clause-held : goal.returns-clause-held
returns-clause-held g c =
    let is = c.in_ok-gave_back.ensures in
    let hart = ap (λ s. s.hart) is.seat in
    ended_leaves c.enter.new.seat.no c.args.state.now c.enter.new.state _ _ c.enter.new.seat.hart is.entered c.task.ensures.order is.task
    (same_hart c.args.state.now.task c.args.state.now.past c.args.seat.now.no c.enter.new.seat.no c.args.seat.now.hart _
    (ap (λ s. s.no) is.seat) hart (c.requires.back.hart c.requires.awake))
    (ap (λ (x : HartState). is_some x.ending) hart ∙ c.requires.ended)
