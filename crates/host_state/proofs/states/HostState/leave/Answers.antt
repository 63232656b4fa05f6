use Rattle.std.proofs.Common.{arith, ap}
use Rattle.plug_registry.specs.State.{RegistryState}
use Rattle.host_state.specs.Tables.{rows_of}
use Rattle.host_state.proofs.Departing.{rows_there, rows_wide, hart_below, hart_is, left_sound, parked_by, kept_by}
use Rattle.host_state.proofs.Parking.{whole}
use Rattle.host_state.proofs.states.HostState.leave.Goals as goal

pub park_all-requires-clause-rows : goal.park_all-requires-clause-rows
park_all-requires-clause-rows g c =
    rows_there c.args.self.now _ c.self.view_is c.self.invariant c.args.no c.requires.legal c.deref_mut.result.now c.into_sets.result.items
    (ap rows_of c.deref_mut.ensures.value) c.args.attached c.into_sets.ensures.sets c.requires.attached

pub park_all-requires-clause-wide : goal.park_all-requires-clause-wide
park_all-requires-clause-wide g c =
    rows_wide c.args.self.now _ c.self.view_is c.self.invariant c.args.no c.requires.legal c.deref_mut.result.now
    (ap rows_of c.deref_mut.ensures.value)

pub index_mut-requires : goal.index_mut-requires
index_mut-requires g c =
    omega (arith, hart_below c.args.self.now _ c.self.view_is c.self.invariant c.args.no c.requires.legal)

pub left-requires : goal.left-requires
left-requires g c = hart_is c.args.self.now _ c.self.view_is c.self.invariant c.args.no c.requires.legal

pub invariant_of-self : goal.invariant_of-self
invariant_of-self g c =
    left_sound c.args.self.now _ c.self.view_is c.self.invariant c.args.no c.requires.legal c.left.new.self c.push.new.self
    c.with_item-self-inside.result.items _ _ (ap (λ (r : RegistryState). r.table) c.left.ensures)
    c.push.ensures.appends c.with_item-self-inside.ensures.item
    (parked_by c.args.no _ c.park_all.new.rows c.deref_mut.result.now c.self.inside.parked.items c.into_sets.result.items c.args.attached _
    (whole c.self.inside.parked.len c.park_all.new.rows c.self.inside.parked.items (omega arith) (omega arith))
    c.park_all.ensures.parked c.deref_mut.ensures.value c.into_sets.ensures.sets c.requires.attached)
    (kept_by c.self.inside.kept.items c.from.result c.args.no c.args.hart _ c.from.ensures c.requires.hart)
