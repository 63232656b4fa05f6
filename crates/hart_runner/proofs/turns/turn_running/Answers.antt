use Rattle.std.proofs.Common.{ℕ, List, ap, sym, subst}
use Rattle.std.specs.Prelude.{MatchOption}
use Rattle.block_finder.specs.Caches.{MayServe}
use Rattle.hart_runner.specs.declared.tapes.Piece.{Piece}
use Rattle.baton_gate.specs.Passes.{carries, seen}
use Rattle.hart_runner.specs.declared.runners.Turned.{Turned}
use Rattle.hart_runner.specs.Turns.{HasHeard, HasLists, IsDone, MayHear}
use Rattle.hart_runner.proofs.Heard.{at_seat, on_place, seat_sits, may_hear, serves_again, serves_back, low_party, all_done, rest_done, rest_lists}
use Rattle.hart_runner.proofs.turns.turn_running.Goals as goal

pub hold_running_once-requires-clause-sits : goal.hold_running_once-requires-clause-sits
hold_running_once-requires-clause-sits g c =
    seat_sits (carries c.args.pass.now) c.args.pass.now.party (seen c.args.pass.now) c.args.place.now c.in-Some.seat c.in-Some.is
    c.requires.sits

pub returns-in_default-hold-clause-done : goal.returns-in_default-hold-clause-done
returns-in_default-hold-clause-done g c = λ t e.
    subst (λ (x : Turned). IsDone x t c.args.pass.now.party (seen c.args.pass.now) (seen c.hold_running_once.new.pass)
    c.hold_running_once.new.place)
    (sym c.turned_by.ensures.turned)
    (rest_done (carries c.args.pass.now) c.hold_running_once.result c.in-Ok.hold c.args.pass.now.party (seen c.args.pass.now)
    (seen c.hold_running_once.new.pass) c.hold_running_once.new.tape.pieces.items c.in-Some.seat c.hold_running_once.new.place c.in-Ok.is
    c.in_default-hold.not-Turned
    (seat_sits (carries c.args.pass.now) c.args.pass.now.party (seen c.args.pass.now) c.args.place.now c.in-Some.seat c.in-Some.is
    c.requires.sits)
    c.hold_running_once.ensures.gone t e)

pub returns-in_default-hold-clause-lists : goal.returns-in_default-hold-clause-lists
returns-in_default-hold-clause-lists g c =
    rest_lists (carries c.args.pass.now) c.hold_running_once.result c.in-Ok.hold (seen c.args.pass.now)
    (seen c.hold_running_once.new.pass) c.hold_running_once.new.tape.pieces.items c.args.lists.now c.in-Some.seat
    c.hold_running_once.new.place c.requires.gate.open_now c.in-Ok.is c.in_default-hold.not-Turned
    (at_seat (HasLists c.args.lists.now) c.args.place.now c.in-Some.seat c.in-Some.is c.requires.lists)
    c.hold_running_once.ensures.gone

pub hear-requires-clause-may : goal.hear-requires-clause-may
hear-requires-clause-may g c =
    let pc = ap (λ s. s.hart.pc) c.seat.view_is in
    subst (λ (y : ℕ × List Piece). MatchOption c.hold_running_once.new.place ⊥ (MayHear y.0 y.1 c.args.lists.now))
    (λ i. (sym pc i, sym c.further.ensures.pieces i))
    (may_hear (carries c.args.pass.now) c.hold_running_once.result c.in-Ok.hold c.args.pass.now.party (seen c.args.pass.now)
    (seen c.hold_running_once.new.pass) c.hold_running_once.new.tape.pieces.items c.args.lists.now c.in-Some.seat
    c.hold_running_once.new.place c.requires.gate.open_now c.in-Ok.is c.in-Turned.is
    (seat_sits (carries c.args.pass.now) c.args.pass.now.party (seen c.args.pass.now) c.args.place.now c.in-Some.seat c.in-Some.is
    c.requires.sits)
    (at_seat (HasLists c.args.lists.now) c.args.place.now c.in-Some.seat c.in-Some.is c.requires.lists)
    c.hold_running_once.ensures.gone)

pub hear-requires-clause-serves : goal.hear-requires-clause-serves
hear-requires-clause-serves g c =
    serves_again (carries c.args.pass.now) c.hold_running_once.result c.in-Ok.hold (seen c.args.pass.now)
    (seen c.hold_running_once.new.pass) c.hold_running_once.new.tape.pieces.items c.hold_running_once.new.blocks c.in-Some.seat
    c.hold_running_once.new.place c.requires.gate.open_now c.in-Ok.is c.in-Turned.is c.hold_running_once.ensures.blocks
    c.hold_running_once.ensures.gone

pub give_up-requires-clause-low : goal.give_up-requires-clause-low
give_up-requires-clause-low g c =
    low_party (carries c.args.pass.now) (carries c.hold_running_once.new.pass) c.args.pass.now.party c.hold_running_once.new.pass.party
    (seen c.args.pass.now) c.in-Some.seat (ap (λ v. v.frame) c.hold_running_once.ensures.same) c.hold_running_once.ensures.party
    (seat_sits (carries c.args.pass.now) c.args.pass.now.party (seen c.args.pass.now) c.args.place.now c.in-Some.seat c.in-Some.is
    c.requires.sits)

pub returns-clause-done : goal.returns-clause-done
returns-clause-done g c =
    all_done (carries c.args.pass.now) c.hold_running_once.result c.in-Ok.hold c.args.pass.now.party (seen c.args.pass.now)
    (seen c.hold_running_once.new.pass) c.hold_running_once.new.tape.pieces.items c.in-Some.seat c.hold_running_once.new.place
    c.hear.new.place c.in-Ok.is c.in-Turned.is
    (seat_sits (carries c.args.pass.now) c.args.pass.now.party (seen c.args.pass.now) c.args.place.now c.in-Some.seat c.in-Some.is
    c.requires.sits)
    c.hold_running_once.ensures.gone
    (subst (λ (ps : List Piece). MatchOption c.hold_running_once.new.place ⊥ (λ seat. MatchOption c.hear.new.place ⊥ (HasHeard ps seat)))
    c.further.ensures.pieces c.in-Ok-hear.ensures.heard)

pub returns-in_default-hear-clause-blocks : goal.returns-in_default-hear-clause-blocks
returns-in_default-hear-clause-blocks g c =
    on_place (λ seat. MayServe c.hear.new.blocks seat.image.value) c.args.place.now c.in-Some.seat c.in-Some.is
    (serves_back (carries c.args.pass.now) c.hold_running_once.result c.in-Ok.hold (seen c.args.pass.now)
    (seen c.hold_running_once.new.pass) c.hold_running_once.new.tape.pieces.items c.hear.new.blocks c.in-Some.seat
    c.hold_running_once.new.place c.requires.gate.open_now c.in-Ok.is c.in-Turned.is c.hear.ensures.serves
    c.hold_running_once.ensures.gone)

pub returns-clause-blocks : goal.returns-clause-blocks
returns-clause-blocks g c =
    on_place (λ seat. MayServe c.hear.new.blocks seat.image.value) c.args.place.now c.in-Some.seat c.in-Some.is
    (serves_back (carries c.args.pass.now) c.hold_running_once.result c.in-Ok.hold (seen c.args.pass.now)
    (seen c.hold_running_once.new.pass) c.hold_running_once.new.tape.pieces.items c.hear.new.blocks c.in-Some.seat
    c.hold_running_once.new.place c.requires.gate.open_now c.in-Ok.is c.in-Turned.is c.hear.ensures.serves
    c.hold_running_once.ensures.gone)
