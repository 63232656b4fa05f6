use Rattle.std.proofs.Common.{◌≡◌, ◌-◌, ◌∷◌, ◌++◌, ◌∙◌, ℕ, List, take, drop, length, refl, sym, ap, arith, map}
use Rattle.host_state.specs.declared.arrivals.Arrival.{Arrival}
use Rattle.flat_model.specs.declared.journals.Item.TheVariants.{Took}
use Rattle.run_order.specs.Sets.{as_notice}
use Rattle.host_state.specs.Rooms.{Room, no_room}
use Rattle.std.specs.Prelude.{slice_index_or}
use Rattle.host_state.specs.State.{StateValue}
use Rattle.host_state.specs.Tables.{rows_of}
use Rattle.host_state.proofs.Parking.{whole}
use Rattle.host_state.proofs.Shown.{shown}
use Rattle.host_state.proofs.Outgoing.{number, installed, room_there, closer_below}
use Rattle.host_state.proofs.Outgoing.{closer_stands, closer_given, there_some, given_is, waits_below}
use Rattle.host_state.proofs.Outgoing.{parks_below, waits_wide, parks_wide, places_for, told, took_sound, set_written, blank_written}
use Rattle.host_state.proofs.Outgoing.{rows_written, closer_gone}
use Rattle.host_state.proofs.states.HostState.take_closing_of.Goals as goal

pub overflow_sub-plugin : goal.overflow_sub-plugin
overflow_sub-plugin g c = number c.args.self.now _ c.self.view_is c.self.invariant c.args.plugin c.requires.due

pub how_withdrawn-how-requires : goal.how_withdrawn-how-requires
how_withdrawn-how-requires g c = record {
  installed = installed c.args.self.now _ c.self.view_is c.self.invariant c.args.plugin c.requires.due;
}

pub index_mut-requires : goal.index_mut-requires
index_mut-requires g c =
    omega (
      arith,
      c.from-row.ensures,
      closer_below c.args.self.now _ c.self.view_is c.self.invariant c.args.plugin c.requires.due
          (λ a. map as_notice (g.C.Closer.notices a)) c.self.inside.closers.items refl,
    )

pub unwrap-closer-requires : goal.unwrap-closer-requires
unwrap-closer-requires g c =
    there_some _ c.take.result _
    (closer_given c.args.self.now _ c.self.view_is c.self.invariant c.args.plugin c.requires.due
    (λ a. map as_notice (g.C.Closer.notices a)) c.self.inside.closers.items refl c.from-row.result c.take.result c.from-row.ensures
    (c.take.ensures.value ∙ closer_stands c.args.self.now _ c.self.view_is c.self.invariant c.args.plugin c.requires.due
    (λ a. map as_notice (g.C.Closer.notices a)) c.self.inside.closers.items refl c.from-row.result c.index_mut.result.now c.from-row.ensures
    c.index_mut.ensures.value))

pub take_room-room-requires : goal.take_room-room-requires
take_room-room-requires g c = record {
  there = omega (
    arith,
    c.from-row.ensures,
    ap (λ (rooms : List Room). length rooms) c.deref_mut.ensures.value,
    room_there c.args.self.now _ c.self.view_is c.self.invariant c.args.plugin c.requires.due,
  );
}

pub park_row-boxes-requires-clause-waiting_row : goal.park_row-boxes-requires-clause-waiting_row
park_row-boxes-requires-clause-waiting_row g c =
    waits_below c.args.self.now _ c.self.view_is c.self.invariant c.args.plugin c.requires.due (λ (a : Arrival g.row.W.Denot). a.set)
    c.deref_mut-2.result.now c.deref_mut-3.result.now (ap (shown (λ (a : Arrival g.row.W.Denot). a.set)) c.deref_mut-2.ensures.value)
    (ap rows_of c.deref_mut-3.ensures.value) c.from-row.result c.from-row.ensures

pub park_row-boxes-requires-clause-parked_row : goal.park_row-boxes-requires-clause-parked_row
park_row-boxes-requires-clause-parked_row g c =
    parks_below c.args.self.now _ c.self.view_is c.self.invariant c.args.plugin c.requires.due (λ (a : Arrival g.row.W.Denot). a.set)
    c.deref_mut-2.result.now c.deref_mut-3.result.now (ap (shown (λ (a : Arrival g.row.W.Denot). a.set)) c.deref_mut-2.ensures.value)
    (ap rows_of c.deref_mut-3.ensures.value) c.from-row.result c.from-row.ensures

pub park_row-boxes-requires-clause-waiting_width : goal.park_row-boxes-requires-clause-waiting_width
park_row-boxes-requires-clause-waiting_width g c =
    waits_wide c.args.self.now _ c.self.view_is c.self.invariant c.args.plugin c.requires.due (λ (a : Arrival g.row.W.Denot). a.set)
    c.deref_mut-2.result.now c.deref_mut-3.result.now (ap (shown (λ (a : Arrival g.row.W.Denot). a.set)) c.deref_mut-2.ensures.value)
    (ap rows_of c.deref_mut-3.ensures.value) c.from-row.result c.from-row.ensures ∙ sym c.harts-harts.ensures.harts

pub park_row-boxes-requires-clause-parked_width : goal.park_row-boxes-requires-clause-parked_width
park_row-boxes-requires-clause-parked_width g c =
    parks_wide c.args.self.now _ c.self.view_is c.self.invariant c.args.plugin c.requires.due (λ (a : Arrival g.row.W.Denot). a.set)
    c.deref_mut-2.result.now c.deref_mut-3.result.now (ap (shown (λ (a : Arrival g.row.W.Denot). a.set)) c.deref_mut-2.ensures.value)
    (ap rows_of c.deref_mut-3.ensures.value) c.from-row.result c.from-row.ensures ∙ sym c.harts-harts.ensures.harts

pub park_row-boxes-requires-clause-places : goal.park_row-boxes-requires-clause-places
park_row-boxes-requires-clause-places g c =
    places_for c.args.self.now _ c.self.view_is c.self.invariant c.args.plugin c.requires.due (λ (a : Arrival g.row.W.Denot). a.set)
    c.deref_mut-2.result.now c.deref_mut-3.result.now (ap (shown (λ (a : Arrival g.row.W.Denot). a.set)) c.deref_mut-2.ensures.value)
    (ap rows_of c.deref_mut-3.ensures.value) c.from-row.result c.from-row.ensures c.harts-harts.result c.take_room-room.result
    c.harts-harts.ensures.harts
    (c.take_room-room.ensures.taken ∙ ap (λ (rooms : List Room). slice_index_or rooms c.from-row.result no_room) c.deref_mut.ensures.value
    ∙ ap (λ (k : ℕ). slice_index_or c.self.inside.rooms.items k no_room) c.from-row.ensures)

pub invariant_of-self : goal.invariant_of-self
invariant_of-self g c =
    let inside = c.self.inside in
    let row = c.from-row.result in
    let harts = c.harts-harts.result in
    let waits = c.park_row-boxes.new.waiting in
    let parks = c.park_row-boxes.new.parked in
    let rooms = c.take_room-room.new.rooms in
    let all_waits : take inside.waiting.len (waits ++ drop (length waits) inside.waiting.items) ≡ waits =
    whole inside.waiting.len waits inside.waiting.items (omega arith) (omega arith) in
    took_sound c.args.self.now _ c.self.view_is c.self.invariant c.args.plugin c.requires.due c.args.party
    c.with_item-self-inside.result.items _ _ _ _ _ c.with_item-self-inside.ensures.item
    (blank_written (λ (a : Arrival g.row.W.Denot). a.set) _ waits c.deref_mut-2.result.now inside.waiting.items row (c.args.plugin - 1)
    harts inside.task.machine.harts all_waits c.park_row-boxes.ensures.waiting c.deref_mut-2.ensures.value c.from-row.ensures
    c.harts-harts.ensures.harts)
    (blank_written (λ (a : Arrival g.row.W.Denot). a.spec) _ waits c.deref_mut-2.result.now inside.waiting.items row (c.args.plugin - 1)
    harts inside.task.machine.harts all_waits c.park_row-boxes.ensures.waiting c.deref_mut-2.ensures.value c.from-row.ensures
    c.harts-harts.ensures.harts)
    (rows_written _ parks c.deref_mut-3.result.now inside.parked.items row (c.args.plugin - 1) harts inside.task.machine.harts
    (whole inside.parked.len parks inside.parked.items (omega arith) (omega arith)) c.park_row-boxes.ensures.parked
    c.deref_mut-3.ensures.value c.from-row.ensures c.harts-harts.ensures.harts)
    (closer_gone (λ a. map as_notice (g.C.Closer.notices a)) inside.closers.items row (c.args.plugin - 1) c.take.new.self c.from-row.ensures
    c.take.ensures.after)
    (set_written _ rooms c.deref_mut.result.now inside.rooms.items row (c.args.plugin - 1) no_room no_room
    (whole inside.rooms.len rooms inside.rooms.items (omega arith) (omega arith)) c.take_room-room.ensures.left c.deref_mut.ensures.value
    c.from-row.ensures refl)

pub returns-clause-out : goal.returns-clause-out
returns-clause-out g c = record {
  past = c.with_item-self-inside.ensures.item ∙ ap (λ (v : StateValue). Took c.args.party c.args.plugin ∷ v.past) c.self.view_is;
  notices = given_is _ c.take.result c.unwrap-closer.result _
      (closer_given c.args.self.now _ c.self.view_is c.self.invariant c.args.plugin c.requires.due
      (λ a. map as_notice (g.C.Closer.notices a)) c.self.inside.closers.items refl c.from-row.result c.take.result c.from-row.ensures
      (c.take.ensures.value ∙ closer_stands c.args.self.now _ c.self.view_is c.self.invariant c.args.plugin c.requires.due
      (λ a. map as_notice (g.C.Closer.notices a)) c.self.inside.closers.items refl c.from-row.result c.index_mut.result.now
      c.from-row.ensures c.index_mut.ensures.value))
      c.unwrap-closer.ensures;
  back = told c.args.self.now _ c.self.view_is c.self.invariant c.args.plugin c.requires.due (λ (a : Arrival g.row.W.Denot). a.set)
      c.deref_mut-2.result.now c.deref_mut-3.result.now (ap (shown (λ (a : Arrival g.row.W.Denot). a.set)) c.deref_mut-2.ensures.value)
      (ap rows_of c.deref_mut-3.ensures.value) c.from-row.result c.from-row.ensures c.harts-harts.result _ c.harts-harts.ensures.harts refl
      c.how_withdrawn-how.ensures.how c.park_row-boxes.ensures.boxes c.park_row-boxes.ensures.columns;
}
