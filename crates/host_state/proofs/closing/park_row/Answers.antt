use Rattle.std.proofs.Common.{◌≡◌, ◌<◌, ◌∙◌, ℕ, None, ap, arith, length, replicate}
use Rattle.std.specs.Prelude.{slice_set}
use Rattle.host_state.specs.declared.arrivals.Arrival.{Arrival}
use Rattle.run_order.specs.Sets.{boxes_back}
use Rattle.host_state.specs.Closing.{parked_column, set_at}
use Rattle.host_state.specs.Tables.{rows_of, row_at}
use Rattle.host_state.specs.Rooms.{Room}
use Rattle.host_state.proofs.Emptying.{rows_long, all_empty, place_there, stands_still, one_more}
use Rattle.host_state.proofs.Emptying.{untouched, goes_out, if_small, if_room, flat_next, some_next}
use Rattle.host_state.proofs.closing.park_row.Goals as goal

pub park_place-requires-clause-waiting_place : goal.park_place-requires-clause-waiting_place
park_place-requires-clause-waiting_place g c =
    let rows = rows_of c.args.waiting.now in
    place_there rows c.args.row (omega (arith, rows_long c.args.waiting.now, c.requires.waiting_row)) c.loop-hart.hart
    (rows_of c.loop-hart.waiting) c.loop-hart.invariant.waiting (omega (arith, c.loop-hart-test.true, c.requires.waiting_width))

pub park_place-requires-clause-parked_place : goal.park_place-requires-clause-parked_place
park_place-requires-clause-parked_place g c =
    let rows = rows_of c.args.parked.now in
    place_there rows c.args.row (omega (arith, rows_long c.args.parked.now, c.requires.parked_row)) c.loop-hart.hart
    (rows_of c.loop-hart.parked) c.loop-hart.invariant.parked (omega (arith, c.loop-hart-test.true, c.requires.parked_width))

pub park_place-requires-clause-few : goal.park_place-requires-clause-few
park_place-requires-clause-few g c =
    let i = c.args.row in
    let k = c.loop-hart.hart in
    let waits = rows_of c.args.waiting.now in
    let parks = rows_of c.args.parked.now in
    if_small c.args.harts c.args.room _ _
    (goes_out (λ (a : Arrival g.row.W.Denot). a.set) (rows_of c.loop-hart.waiting) waits (rows_of c.loop-hart.parked) parks i k
    (stands_still waits i (omega (arith, rows_long c.args.waiting.now, c.requires.waiting_row)) k (rows_of c.loop-hart.waiting)
    c.loop-hart.invariant.waiting)
    (stands_still parks i (omega (arith, rows_long c.args.parked.now, c.requires.parked_row)) k (rows_of c.loop-hart.parked)
    c.loop-hart.invariant.parked))
    (c.requires.places k c.loop-hart-test.true)

pub park_place-requires-clause-room : goal.park_place-requires-clause-room
park_place-requires-clause-room g c =
    let i = c.args.row in
    let k = c.loop-hart.hart in
    let waits = rows_of c.args.waiting.now in
    let parks = rows_of c.args.parked.now in
    if_room c.args.harts k c.args.room _ _ _ _ _ _
    (goes_out (λ (a : Arrival g.row.W.Denot). a.set) (rows_of c.loop-hart.waiting) waits (rows_of c.loop-hart.parked) parks i k
    (stands_still waits i (omega (arith, rows_long c.args.waiting.now, c.requires.waiting_row)) k (rows_of c.loop-hart.waiting)
    c.loop-hart.invariant.waiting)
    (stands_still parks i (omega (arith, rows_long c.args.parked.now, c.requires.parked_row)) k (rows_of c.loop-hart.parked)
    c.loop-hart.invariant.parked))
    (c.requires.places k c.loop-hart-test.true) c.loop-hart-test.true c.loop-hart.invariant.box_count c.loop-hart.invariant.column_count
    c.loop-hart.invariant.box_room c.loop-hart.invariant.column_room

pub loop-hart-init : goal.loop-hart-init
loop-hart-init g c = record {
  waiting = untouched (rows_of c.args.waiting.now) c.args.row;
  parked = untouched (rows_of c.args.parked.now) c.args.row;
  boxes = c.room.invariant.0;
  columns = c.room.invariant.1;
  box_count = omega (arith, ap (λ v. length v) c.room.invariant.0);
  column_count = omega (arith, ap (λ v. length v) c.room.invariant.1);
  box_room = ap (λ (r : Room). r.boxes) c.room.view_is;
  column_room = ap (λ (r : Room). r.columns) c.room.view_is;
}

pub loop-hart-preserved : goal.loop-hart-preserved
loop-hart-preserved g c =
    let i = c.args.row in
    let k = c.loop-hart.hart in
    let waits = rows_of c.args.waiting.now in
    let parks = rows_of c.args.parked.now in
    let waits_below : i < length waits = omega (arith, rows_long c.args.waiting.now, c.requires.waiting_row) in
    let parks_below : i < length parks = omega (arith, rows_long c.args.parked.now, c.requires.parked_row) in
    let at = c.loop-hart.invariant in
    let out =
    goes_out (λ (a : Arrival g.row.W.Denot). a.set) (rows_of c.loop-hart.waiting) waits (rows_of c.loop-hart.parked) parks i k
    (stands_still waits i waits_below k (rows_of c.loop-hart.waiting) at.waiting)
    (stands_still parks i parks_below k (rows_of c.loop-hart.parked) at.parked) in
    let sets = set_at (λ (a : Arrival g.row.W.Denot). a.set) (row_at waits i) (row_at parks i) in
    record {
      waiting = one_more waits i waits_below k (rows_of c.loop-hart.waiting) (rows_of c.park_place.new.waiting) at.waiting
          c.park_place.ensures.waiting;
      parked = one_more parks i parks_below k (rows_of c.loop-hart.parked) (rows_of c.park_place.new.parked) at.parked
          c.park_place.ensures.parked;
      boxes = flat_next boxes_back sets k _ c.loop-hart.boxes.items c.park_place.new.boxes.items out c.park_place.ensures.boxes at.boxes;
      columns = some_next parked_column sets k _ c.loop-hart.columns.items c.park_place.new.columns.items out c.park_place.ensures.columns
          at.columns;
      box_count = omega (arith, c.park_place.ensures.few_boxes, at.box_count);
      column_count = omega (arith, c.park_place.ensures.few_columns, at.column_count);
      box_room = c.park_place.ensures.capacity ∙ at.box_room;
      column_room = c.park_place.ensures.column_capacity ∙ at.column_room;
    }

pub returns-clause-waiting : goal.returns-clause-waiting
returns-clause-waiting g c =
    let rows = rows_of c.args.waiting.now in
    let n = c.loop-hart.hart in
    let last : n ≡ c.args.harts = omega (arith, c.loop-hart-test.false, c.loop-hart.auto.hart-end) in
    c.loop-hart.invariant.waiting
    ∙ ap (λ row. slice_set rows c.args.row row) (all_empty n (row_at rows c.args.row) (omega (arith, last, c.requires.waiting_width)))
    ∙ ap (λ (k : ℕ). slice_set rows c.args.row (replicate k None)) last

pub returns-clause-parked : goal.returns-clause-parked
returns-clause-parked g c =
    let rows = rows_of c.args.parked.now in
    let n = c.loop-hart.hart in
    let last : n ≡ c.args.harts = omega (arith, c.loop-hart-test.false, c.loop-hart.auto.hart-end) in
    c.loop-hart.invariant.parked
    ∙ ap (λ row. slice_set rows c.args.row row) (all_empty n (row_at rows c.args.row) (omega (arith, last, c.requires.parked_width)))
    ∙ ap (λ (k : ℕ). slice_set rows c.args.row (replicate k None)) last
