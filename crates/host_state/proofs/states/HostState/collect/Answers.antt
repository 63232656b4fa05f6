use Rattle.std.proofs.Common.{◌≡◌, ◌-◌, ◌++◌, None, take, drop, length, ap, arith}
use Rattle.plug_registry.specs.State.{RegistryState}
use Rattle.host_state.specs.Tables.{rows_of}
use Rattle.host_state.proofs.Parking.{whole}
use Rattle.host_state.proofs.Shown.{shown}
use Rattle.host_state.proofs.GivingBack.{numbered, owes_back, waits_row, waits_place, comes_back, parks_row, parks_place, returned_sound}
use Rattle.host_state.proofs.GivingBack.{sets_left, specs_left, shown_written, parked_as}
use Rattle.host_state.proofs.states.HostState.collect.Goals as goal

pub overflow_sub-plugin : goal.overflow_sub-plugin
overflow_sub-plugin g c = numbered _ c.args.no c.args.plugin c.args.self.now.past c.requires.legal

pub back_from-set-requires-clause-row : goal.back_from-set-requires-clause-row
back_from-set-requires-clause-row g c =
    waits_row c.args.self.now _ c.self.view_is c.self.invariant c.args.no c.args.plugin c.requires.legal (λ a. a.set)
    c.deref_mut.result.now (ap (shown (λ a. a.set)) c.deref_mut.ensures.value) c.from-row.result c.from-place.result
    c.from-row.ensures c.from-place.ensures

pub back_from-set-requires-clause-place : goal.back_from-set-requires-clause-place
back_from-set-requires-clause-place g c =
    waits_place c.args.self.now _ c.self.view_is c.self.invariant c.args.no c.args.plugin c.requires.legal (λ a. a.set)
    c.deref_mut.result.now (ap (shown (λ a. a.set)) c.deref_mut.ensures.value) c.from-row.result c.from-place.result
    c.from-row.ensures c.from-place.ensures

pub park-requires-clause-row : goal.park-requires-clause-row
park-requires-clause-row g c =
    parks_row c.args.self.now _ c.self.view_is c.self.invariant c.args.no c.args.plugin c.requires.legal
    c.deref_mut-2.result.now (ap rows_of c.deref_mut-2.ensures.value) c.from-row.result c.from-place.result
    c.from-row.ensures c.from-place.ensures

pub park-requires-clause-place : goal.park-requires-clause-place
park-requires-clause-place g c =
    parks_place c.args.self.now _ c.self.view_is c.self.invariant c.args.no c.args.plugin c.requires.legal
    c.deref_mut-2.result.now (ap rows_of c.deref_mut-2.ensures.value) c.from-row.result c.from-place.result
    c.from-row.ensures c.from-place.ensures

pub back-requires : goal.back-requires
back-requires g c = owes_back c.args.self.now _ c.self.view_is c.self.invariant c.args.no c.args.plugin c.requires.legal

pub invariant_of-self : goal.invariant_of-self
invariant_of-self g c =
    let inside = c.self.inside in
    let row = c.from-row.result in
    let place = c.from-place.result in
    let new = c.back_from-set.new.rows in
    let waits : take inside.waiting.len (new ++ drop (length new) inside.waiting.items) ≡ new =
    whole inside.waiting.len new inside.waiting.items (omega arith) (omega arith) in
    returned_sound c.args.self.now _ c.self.view_is c.self.invariant c.args.no c.args.plugin c.requires.legal c.back.new.self
    c.push.new.self c.with_item-self-inside.result.items _ _ _ (ap (λ (r : RegistryState). r.table) c.back.ensures)
    c.push.ensures.appends c.with_item-self-inside.ensures.item
    (shown_written (λ a. a.set) _ new c.deref_mut.result.now inside.waiting.items row place (c.args.plugin - 1) c.args.no None
    waits c.back_from-set.ensures.left c.deref_mut.ensures.value c.from-row.ensures c.from-place.ensures)
    (shown_written (λ a. a.spec) _ new c.deref_mut.result.now inside.waiting.items row place (c.args.plugin - 1) c.args.no None
    waits c.back_from-set.ensures.left c.deref_mut.ensures.value c.from-row.ensures c.from-place.ensures)
    (parked_as _ c.park.new.rows c.deref_mut-2.result.now inside.parked.items row place (c.args.plugin - 1) c.args.no
    c.back_from-set.result _ (whole inside.parked.len c.park.new.rows inside.parked.items (omega arith) (omega arith))
    c.park.ensures.parked c.deref_mut-2.ensures.value c.from-row.ensures c.from-place.ensures
    (comes_back c.args.self.now _ c.self.view_is c.self.invariant c.args.no c.args.plugin c.requires.legal (λ a. a.set)
    c.deref_mut.result.now (ap (shown (λ a. a.set)) c.deref_mut.ensures.value) row place c.from-row.ensures c.from-place.ensures
    c.args.attached.now c.back_from-set.result c.take.result c.back_from-set.ensures.back c.requires.attached c.take.ensures.taken))

pub returns-clause-attached : goal.returns-clause-attached
returns-clause-attached g c =
    sets_left c.args.self.now _ c.self.view_is c.args.no c.args.plugin c.with_item-self-inside.result.items
    c.with_item-self-inside.ensures.item c.args.attached.now c.take.new.self c.requires.attached c.take.ensures.left

pub returns-clause-specs : goal.returns-clause-specs
returns-clause-specs g c =
    specs_left c.args.self.now _ c.self.view_is c.args.no c.args.plugin c.with_item-self-inside.result.items
    c.with_item-self-inside.ensures.item c.args.specs.now c.take-2.new.self c.requires.specs c.take-2.ensures.left
