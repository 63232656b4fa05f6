use Rattle.hart_runner.proofs.Entered.{of_run, may_return, no_asks, entered, wrote, only_gots}
use Rattle.hart_runner.proofs.entering.enter_parked.Goals as goal

pub fail-requires : goal.fail-requires
fail-requires g c = record {
  hart = of_run c.args.state.now c.prepare.new.state c.args.seat.now.no c.prepare.ensures.rest c.requires.back.there;
}

pub give_back_all-gave_back-requires-clause-may : goal.give_back_all-gave_back-requires-clause-may
give_back_all-gave_back-requires-clause-may g c =
    may_return c.args.state.now c.prepare.new.state c.args.seat.now.no c.args.seat.now.hart _ _ c.args.seat.now.asks.first
    c.prepare.ensures.rest c.in-Ok.ensures.open c.requires.caught_up c.task.ensures.order c.requires.back c.requires.quiet

pub returns-then-gave_back-clause-entered : goal.returns-then-gave_back-clause-entered
returns-then-gave_back-clause-entered g c =
    let room = c.in-Ok.ensures in
    let backs = c.give_back_all-gave_back.ensures in
    let takes = c.attach-arrived.ensures in
    entered c.args.seat.now.no c.args.state.now c.prepare.new.state c.prepare.new.state c.give_back_all-gave_back.new.state
    c.attach-arrived.new.self
    _ _ _ _ c.prepare.ensures.rest room.room room.output (no_asks c.args.seat.now.no c.prepare.new.state)
    (record { may = backs.may; returned = backs.returned; owes_none = backs.owes_none; room = backs.room })
    (record { gots = takes.gots; rest = takes.rest; attached = takes.attached; filters = takes.specs; all = takes.all })

pub returns-then-gave_back-clause-wrote : goal.returns-then-gave_back-clause-wrote
returns-then-gave_back-clause-wrote g c =
    λ gave. wrote c.args.seat.now.no c.args.state.now c.prepare.new.state c.prepare.new.state c.give_back_all-gave_back.new.state
    c.attach-arrived.new.self c.prepare.ensures.rest (no_asks c.args.seat.now.no c.prepare.new.state) c.attach-arrived.ensures.gots
    (c.give_back_all-gave_back.ensures.wrote gave)

pub returns-then-gave_back-clause-gots : goal.returns-then-gave_back-clause-gots
returns-then-gave_back-clause-gots g c =
    λ none. only_gots c.args.seat.now.no c.args.state.now c.prepare.new.state c.give_back_all-gave_back.new.state c.attach-arrived.new.self
    c.prepare.ensures.rest (c.give_back_all-gave_back.ensures.nothing none).0 c.attach-arrived.ensures.gots

pub returns-else-arrived-clause-entered : goal.returns-else-arrived-clause-entered
returns-else-arrived-clause-entered g c =
    let room = c.in-Ok.ensures in
    let backs = c.give_back_all-gave_back.ensures in
    let takes = c.attach-arrived.ensures in
    entered c.args.seat.now.no c.args.state.now c.prepare.new.state c.prepare.new.state c.give_back_all-gave_back.new.state
    c.attach-arrived.new.self
    _ _ _ _ c.prepare.ensures.rest room.room room.output (no_asks c.args.seat.now.no c.prepare.new.state)
    (record { may = backs.may; returned = backs.returned; owes_none = backs.owes_none; room = backs.room })
    (record { gots = takes.gots; rest = takes.rest; attached = takes.attached; filters = takes.specs; all = takes.all })

pub returns-else-arrived-clause-wrote : goal.returns-else-arrived-clause-wrote
returns-else-arrived-clause-wrote g c =
    λ gave. wrote c.args.seat.now.no c.args.state.now c.prepare.new.state c.prepare.new.state c.give_back_all-gave_back.new.state
    c.attach-arrived.new.self c.prepare.ensures.rest (no_asks c.args.seat.now.no c.prepare.new.state) c.attach-arrived.ensures.gots
    (c.give_back_all-gave_back.ensures.wrote gave)

pub returns-else-arrived-clause-gots : goal.returns-else-arrived-clause-gots
returns-else-arrived-clause-gots g c =
    λ none. only_gots c.args.seat.now.no c.args.state.now c.prepare.new.state c.give_back_all-gave_back.new.state c.attach-arrived.new.self
    c.prepare.ensures.rest (c.give_back_all-gave_back.ensures.nothing none).0 c.attach-arrived.ensures.gots
