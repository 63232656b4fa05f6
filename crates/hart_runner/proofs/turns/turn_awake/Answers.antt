use Rattle.std.proofs.Common.{◌≡◌, false, None, refl}
use Rattle.baton_gate.specs.Passes.{carries, seen}
use Rattle.block_finder.specs.Caches.{MayServe}
use Rattle.hart_runner.specs.Turns.{HasLists}
use Rattle.hart_runner.proofs.Heard.{at_seat, on_place, below_limit, sits_at, low_party, goes_ahead, serves_ahead, served_ahead, lists_ahead}
use Rattle.hart_runner.proofs.turns.turn_awake.Goals as goal

pub go_ahead_from-requires-clause-below : goal.go_ahead_from-requires-clause-below
go_ahead_from-requires-clause-below g c =
    below_limit (carries c.args.pass.now) c.args.pass.now.party (seen c.args.pass.now) c.args.place.now c.in-Some.seat
    c.requires.gate.open_now c.in-Some.is c.requires.sits c.requires.runs

pub give_up-requires-clause-low : goal.give_up-requires-clause-low
give_up-requires-clause-low g c =
    low_party (carries c.args.pass.now) (carries c.args.pass.now) c.args.pass.now.party c.args.pass.now.party (seen c.args.pass.now)
    c.go_ahead_from.new.seat refl refl
    (sits_at (carries c.args.pass.now) c.args.pass.now.party (seen c.args.pass.now) c.args.place.now c.in-Some.seat
    c.go_ahead_from.new.seat c.in-Some.is c.requires.sits c.go_ahead_from.ensures.seat c.go_ahead_from.ensures.kept)

pub turn_running-requires-clause-sits : goal.turn_running-requires-clause-sits
turn_running-requires-clause-sits g c =
    sits_at (carries c.args.pass.now) c.args.pass.now.party (seen c.args.pass.now) c.args.place.now c.in-Some.seat
    c.go_ahead_from.new.seat c.in-Some.is c.requires.sits c.go_ahead_from.ensures.seat c.go_ahead_from.ensures.kept

pub turn_running-requires-clause-ahead : goal.turn_running-requires-clause-ahead
turn_running-requires-clause-ahead g c =
    let goes = at_seat (λ seat. (seat.hart.parked ≡ false) × (seat.hart.ending ≡ None)) c.args.place.now c.in-Some.seat c.in-Some.is
    c.requires.runs in
    goes_ahead c.in-Some.seat c.go_ahead_from.new.seat c.in-Ok.ahead c.go_ahead_from.ensures.seat goes.0 goes.1 c.in-Ok.ensures.ran

pub turn_running-requires-clause-serves : goal.turn_running-requires-clause-serves
turn_running-requires-clause-serves g c =
    serves_ahead c.go_ahead_from.new.blocks c.in-Some.seat c.go_ahead_from.new.seat c.go_ahead_from.ensures.seat
    c.go_ahead_from.ensures.blocks

pub turn_running-requires-clause-lists : goal.turn_running-requires-clause-lists
turn_running-requires-clause-lists g c =
    lists_ahead c.args.lists.now c.in-Some.seat c.go_ahead_from.new.seat c.go_ahead_from.ensures.seat
    (at_seat (HasLists c.args.lists.now) c.args.place.now c.in-Some.seat c.in-Some.is c.requires.lists)

pub returns-clause-blocks : goal.returns-clause-blocks
returns-clause-blocks g c =
    on_place (λ seat. MayServe c.turn_running.new.blocks seat.image.value) c.args.place.now c.in-Some.seat c.in-Some.is
    (served_ahead c.turn_running.new.blocks c.in-Some.seat c.go_ahead_from.new.seat c.go_ahead_from.ensures.seat
    c.turn_running.ensures.blocks)
