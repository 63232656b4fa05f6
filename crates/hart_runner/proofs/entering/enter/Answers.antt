use Rattle.hart_runner.proofs.Entered.{of_run, as_noted, entered, wrote}
use Rattle.hart_runner.proofs.entering.enter.Goals as goal

pub fail-requires : goal.fail-requires
fail-requires g c = record {
  hart = of_run c.args.state.now c.prepare.new.state c.args.seat.now.no c.prepare.ensures.rest c.requires.back.there;
}

pub ask-requires-clause-asks : goal.ask-requires-clause-asks
ask-requires-clause-asks g c =
    as_noted c.args.state.now c.prepare.new.state c.args.seat.now.no c.args.seat.now.hart _ _ c.args.seat.now.asks.first
    c.prepare.ensures.rest c.task.ensures.order c.requires.back

pub returns-then-gave_back-clause-wrote : goal.returns-then-gave_back-clause-wrote
returns-then-gave_back-clause-wrote g c =
    let asks = c.ask.ensures in
    let backs = c.give_back_all-gave_back.ensures in
    let takes = c.attach-came.ensures in
    λ gave. wrote c.args.seat.now.no c.args.state.now c.prepare.new.state c.ask.new.self c.give_back_all-gave_back.new.state
    c.attach-came.new.self
    c.prepare.ensures.rest (record { asked = asks.asked; rest = asks.rest; world = asks.world; room = asks.room }) takes.gots (backs.wrote
    gave)

pub returns-then-gave_back-clause-entered : goal.returns-then-gave_back-clause-entered
returns-then-gave_back-clause-entered g c =
    let room = c.in-Ok.ensures in
    let asks = c.ask.ensures in
    let backs = c.give_back_all-gave_back.ensures in
    let takes = c.attach-came.ensures in
    entered c.args.seat.now.no c.args.state.now c.prepare.new.state c.ask.new.self c.give_back_all-gave_back.new.state
    c.attach-came.new.self
    _ _ _ _ c.prepare.ensures.rest room.room room.output
    (record { asked = asks.asked; rest = asks.rest; world = asks.world; room = asks.room })
    (record { may = backs.may; returned = backs.returned; owes_none = backs.owes_none; room = backs.room })
    (record { gots = takes.gots; rest = takes.rest; attached = takes.attached; filters = takes.specs; all = takes.all })

pub returns-else-came-clause-wrote : goal.returns-else-came-clause-wrote
returns-else-came-clause-wrote g c =
    let asks = c.ask.ensures in
    let backs = c.give_back_all-gave_back.ensures in
    let takes = c.attach-came.ensures in
    λ gave. wrote c.args.seat.now.no c.args.state.now c.prepare.new.state c.ask.new.self c.give_back_all-gave_back.new.state
    c.attach-came.new.self
    c.prepare.ensures.rest (record { asked = asks.asked; rest = asks.rest; world = asks.world; room = asks.room }) takes.gots (backs.wrote
    gave)

pub returns-else-came-clause-entered : goal.returns-else-came-clause-entered
returns-else-came-clause-entered g c =
    let room = c.in-Ok.ensures in
    let asks = c.ask.ensures in
    let backs = c.give_back_all-gave_back.ensures in
    let takes = c.attach-came.ensures in
    entered c.args.seat.now.no c.args.state.now c.prepare.new.state c.ask.new.self c.give_back_all-gave_back.new.state
    c.attach-came.new.self
    _ _ _ _ c.prepare.ensures.rest room.room room.output
    (record { asked = asks.asked; rest = asks.rest; world = asks.world; room = asks.room })
    (record { may = backs.may; returned = backs.returned; owes_none = backs.owes_none; room = backs.room })
    (record { gots = takes.gots; rest = takes.rest; attached = takes.attached; filters = takes.specs; all = takes.all })
