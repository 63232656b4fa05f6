use Rattle.std.proofs.Common.{◌<◌, ◌%◌, ◌∙◌, ℕ, ap, sym, subst, arith, length}
use Rattle.std.proofs.lemmas.Bool.{lt-ltb}
use Rattle.flat_model.specs.World.{HartState, IsHart}
use Rattle.run_order.specs.InOrder.{Task, task_run}
use Rattle.kept_order.proofs.Gone.{there_low}
use Rattle.hart_runner.specs.declared.holding.Hold.TheVariants.{Turned}
use Rattle.hart_runner.specs.Holds.{IsHeld, IsHold}
use Rattle.hart_runner.proofs.Held.{entered_hart, same_hart, may_place, turned_on, turned_hold_on, running_seated, over_leaves}
use Rattle.hart_runner.proofs.holding.hold_running.Goals as goal

pub place_due-requires-clause-turned : goal.place_due-requires-clause-turned
place_due-requires-clause-turned g c =
    let is = c.in_ok-gave_back.ensures in
    let first = c.in_ok-made.ensures in
    let on = c.go_on.ensures in
    may_place c.enter.new.seat.no c.commit_first.new.seat.no c.in_ok-made.made c.go_on.result c.args.state.now.past c.enter.new.state
    c.commit_first.new.state c.go_on.new.state c.enter.new.seat.attached c.enter.new.seat.specs
    c.enter.new.seat.hart c.commit_first.new.seat.hart c.go_on.new.hart c.commit_first.new.seat.raw.events _
    c.args.tape.now.pieces.items c.go_on.new.tape.pieces.items
    (ap (λ s. s.no) first.seat) is.entered
    (entered_hart c.args.state.now.task c.enter.new.seat.no c.args.state.now.past c.enter.new.state _ _ c.enter.new.seat.hart is.entered
    is.task
    (same_hart c.args.state.now.task c.args.state.now.past c.args.seat.now.no c.enter.new.seat.no c.args.seat.now.hart c.enter.new.seat.hart
    (ap (λ s. s.no) is.seat) (ap (λ s. s.hart) is.seat) (c.requires.back.hart c.requires.awake)))
    first.committed on.gone on.task c.task-then-is_none.ensures.order on.going on.most

pub place_due-requires-clause-low : goal.place_due-requires-clause-low
place_due-requires-clause-low g c =
    let is = c.in_ok-gave_back.ensures in
    let first = c.in_ok-made.ensures in
    let task = c.go_on.ensures.task ∙ first.task in
    subst (λ (y : ℕ × Task). y.0 < y.1.machine.harts) (λ i. (sym (ap (λ s. s.no) first.seat) i, sym task i))
    (there_low (task_run c.enter.new.state.task) c.enter.new.seat.no c.enter.new.state.past is.entered.there)

pub returns-then-is_none-clause-held : goal.returns-then-is_none-clause-held
returns-then-is_none-clause-held g c =
    let is = c.in_ok-gave_back.ensures in
    let first = c.in_ok-made.ensures in
    let on = c.go_on.ensures in
    let hart = ap (λ s. s.hart) is.seat in
    let view = ap (λ s. s.hart) c.seat.view_is in
    let whole = subst IsHart view c.seat.invariant in
    let aligned = ap (λ (x : HartState). x.pc % 4) hart ∙ whole.aligned in
    subst (λ pc. IsHeld Turned c.commit_first.new.seat.no c.args.state.now.past c.place_due.new.state c.go_on.new.hart
    c.commit_first.new.seat.attached c.commit_first.new.seat.specs c.commit_first.new.seat.asks.first c.commit_first.new.seat.raw.events
    pc c.go_on.new.tape.pieces.items)
    (ap (λ (x : HartState). x.pc) hart)
    (subst (λ s. IsHeld Turned s.no c.args.state.now.past c.place_due.new.state c.go_on.new.hart s.attached s.specs s.asks.first
    c.commit_first.new.seat.raw.events c.enter.new.seat.hart.pc c.go_on.new.tape.pieces.items)
    (sym first.seat)
    (turned_on c.enter.new.seat.no c.commit_first.new.seat.no c.in_ok-made.made c.go_on.result c.args.state.now.past c.enter.new.state
    c.commit_first.new.state c.go_on.new.state c.place_due.new.state c.enter.new.seat.attached c.enter.new.seat.specs c.enter.new.seat.asks.first
    c.enter.new.seat.hart c.commit_first.new.seat.hart c.go_on.new.hart c.commit_first.new.seat.raw.events c.enter.new.seat.hart.pc _
    c.args.tape.now.pieces.items c.go_on.new.tape.pieces.items
    (ap (λ s. s.no) first.seat) is.entered
    (entered_hart c.args.state.now.task c.enter.new.seat.no c.args.state.now.past c.enter.new.state _ _ c.enter.new.seat.hart is.entered
    is.task
    (same_hart c.args.state.now.task c.args.state.now.past c.args.seat.now.no c.enter.new.seat.no c.args.seat.now.hart c.enter.new.seat.hart
    (ap (λ s. s.no) is.seat) hart (c.requires.back.hart c.requires.awake)))
    first.committed aligned first.lies on.gone on.task c.task-then-is_none.ensures.order on.going on.most c.requires.empty
    (λ has. lt-ltb 0 c.len-has_sets.result (omega (arith, has, c.len-has_sets.ensures.length, ap (λ s. length s.attached) first.seat)))
    c.place_due.ensures.placed))

pub returns-then-is_none-clause-hold : goal.returns-then-is_none-clause-hold
returns-then-is_none-clause-hold g c =
    let is = c.in_ok-gave_back.ensures in
    let first = c.in_ok-made.ensures in
    let on = c.go_on.ensures in
    let hart = ap (λ s. s.hart) is.seat in
    subst (λ n. IsHold n c.args.state.now c.place_due.new.state) (sym (ap (λ s. s.no) first.seat))
    (turned_hold_on c.enter.new.seat.no c.commit_first.new.seat.no c.in_ok-made.made c.go_on.result c.args.state.now c.enter.new.state
    c.commit_first.new.state c.go_on.new.state c.place_due.new.state c.enter.new.seat.attached c.enter.new.seat.specs
    c.enter.new.seat.hart c.commit_first.new.seat.hart c.go_on.new.hart c.commit_first.new.seat.raw.events _
    c.args.tape.now.pieces.items c.go_on.new.tape.pieces.items
    (ap (λ s. s.no) first.seat) is.entered
    (entered_hart c.args.state.now.task c.enter.new.seat.no c.args.state.now.past c.enter.new.state _ _ c.enter.new.seat.hart is.entered
    is.task
    (same_hart c.args.state.now.task c.args.state.now.past c.args.seat.now.no c.enter.new.seat.no c.args.seat.now.hart c.enter.new.seat.hart
    (ap (λ s. s.no) is.seat) hart (c.requires.back.hart c.requires.awake)))
    first.committed on.gone on.task c.task-then-is_none.ensures.order on.going on.most is.task c.place_due.ensures.placed)

pub returns-in_err-place_due-clause-hold : goal.returns-in_err-place_due-clause-hold
returns-in_err-place_due-clause-hold g c =
    let is = c.in_ok-gave_back.ensures in
    let first = c.in_ok-made.ensures in
    let on = c.go_on.ensures in
    let hart = ap (λ s. s.hart) is.seat in
    subst (λ n. IsHold n c.args.state.now c.place_due.new.state) (sym (ap (λ s. s.no) first.seat))
    (turned_hold_on c.enter.new.seat.no c.commit_first.new.seat.no c.in_ok-made.made c.go_on.result c.args.state.now c.enter.new.state
    c.commit_first.new.state c.go_on.new.state c.place_due.new.state c.enter.new.seat.attached c.enter.new.seat.specs
    c.enter.new.seat.hart c.commit_first.new.seat.hart c.go_on.new.hart c.commit_first.new.seat.raw.events _
    c.args.tape.now.pieces.items c.go_on.new.tape.pieces.items
    (ap (λ s. s.no) first.seat) is.entered
    (entered_hart c.args.state.now.task c.enter.new.seat.no c.args.state.now.past c.enter.new.state _ _ c.enter.new.seat.hart is.entered
    is.task
    (same_hart c.args.state.now.task c.args.state.now.past c.args.seat.now.no c.enter.new.seat.no c.args.seat.now.hart c.enter.new.seat.hart
    (ap (λ s. s.no) is.seat) hart (c.requires.back.hart c.requires.awake)))
    first.committed on.gone on.task c.task-then-is_none.ensures.order on.going on.most is.task c.place_due.ensures.placed)

pub returns-then-gave_back-clause-held : goal.returns-then-gave_back-clause-held
returns-then-gave_back-clause-held g c =
    let is = c.in_ok-gave_back.ensures in
    let hart = ap (λ s. s.hart) is.seat in (
      running_seated c.enter.new.seat.no c.args.state.now c.enter.new.state _ _ c.enter.new.seat.hart _ is.entered is.task (same_hart
          c.args.state.now.task c.args.state.now.past c.args.seat.now.no c.enter.new.seat.no c.args.seat.now.hart c.enter.new.seat.hart
          (ap (λ s. s.no) is.seat) (ap (λ s. s.hart) is.seat) (c.requires.back.hart c.requires.awake))
          (ap (λ (x : HartState). x.since) hart ∙ c.requires.begins)
          (subst (λ (x : HartState). x.steps < c.args.state.now.task.machine.limit) (sym hart) c.requires.below) is.asks,
      is.wrote c.if-gave_back.true,
    )

pub returns-clause-held : goal.returns-clause-held
returns-clause-held g c =
    let is = c.in_ok-gave_back.ensures in
    over_leaves c.enter.new.seat.no c.args.state.now c.enter.new.state _ _ c.enter.new.seat.hart c.group.result is.entered
    c.task.ensures.order
    (entered_hart c.args.state.now.task c.enter.new.seat.no c.args.state.now.past c.enter.new.state _ _ c.enter.new.seat.hart is.entered
    is.task
    (same_hart c.args.state.now.task c.args.state.now.past c.args.seat.now.no c.enter.new.seat.no c.args.seat.now.hart c.enter.new.seat.hart
    (ap (λ s. s.no) is.seat) (ap (λ s. s.hart) is.seat) (c.requires.back.hart c.requires.awake)))
    c.group.ensures.group c.if-is_none.ensures
