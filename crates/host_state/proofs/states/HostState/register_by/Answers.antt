use Rattle.std.proofs.Common.{◌≡◌, ◌∷◌, ◌∙◌, ◌-◌, ◌*◌, ℕ, List, Some, replicate, vec_len, refl, ap, subst, arith}
use Rattle.std.specs.Prelude.{slice_set}
use Rattle.flat_model.specs.declared.plugins.SetSpec.{SetSpec}
use Rattle.flat_model.specs.declared.journals.Item.TheVariants.{Ordered}
use Rattle.flat_model.specs.declared.journals.Entry.{Entry}
use Rattle.flat_model.specs.declared.journals.Order.{Order}
use Rattle.flat_model.specs.declared.journals.Order.TheVariants.{Register}
use Rattle.flat_model.specs.Acts.{calling}
use Rattle.flat_model.specs.Log.{log}
use Rattle.flat_model.specs.Registry.{Plugins, after_order}
use Rattle.watcher_api.specs.Attachment.{opening}
use Rattle.host_state.specs.Rooms.{IsRoomFor}
use Rattle.host_state.proofs.Controlling.{may_control, can_register, registered_sound, row_set, row_below}
use Rattle.host_state.proofs.states.HostState.register_by.Goals as goal

pub arrivals_in-row-requires-clause-number : goal.arrivals_in-row-requires-clause-number
arrivals_in-row-requires-clause-number g c =
    (can_register c.args.self.now _ c.args.plugin c.args.spec c.self.view_is c.self.invariant c.requires.allowed).one

pub arrivals_in-row-requires-clause-most : goal.arrivals_in-row-requires-clause-most
arrivals_in-row-requires-clause-most g c =
    (can_register c.args.self.now _ c.args.plugin c.args.spec c.self.view_is c.self.invariant c.requires.allowed).most

pub arrivals_in-row-requires-clause-subs : goal.arrivals_in-row-requires-clause-subs
arrivals_in-row-requires-clause-subs g c =
    (can_register c.args.self.now _ c.args.plugin c.args.spec c.self.view_is c.self.invariant c.requires.allowed).attachable.subs

pub arrivals_in-row-requires-clause-entries : goal.arrivals_in-row-requires-clause-entries
arrivals_in-row-requires-clause-entries g c =
    (can_register c.args.self.now _ c.args.plugin c.args.spec c.self.view_is c.self.invariant c.requires.allowed).attachable.entries

pub arrivals_in-row-requires-clause-boxes : goal.arrivals_in-row-requires-clause-boxes
arrivals_in-row-requires-clause-boxes g c =
    let can = can_register c.args.self.now _ c.args.plugin c.args.spec c.self.view_is c.self.invariant c.requires.allowed in
    omega (arith, can.boxes, ap (λ (n : ℕ). n * calling c.args.spec.subs) c.harts-harts.ensures.harts)

pub overflow_sub-place : goal.overflow_sub-place
overflow_sub-place g c =
    let can = can_register c.args.self.now _ c.args.plugin c.args.spec c.self.view_is c.self.invariant c.requires.allowed in
    omega (arith, can.one, c.from-place.ensures)

pub index_mut-requires : goal.index_mut-requires
index_mut-requires g c =
    let can = can_register c.args.self.now _ c.args.plugin c.args.spec c.self.view_is c.self.invariant c.requires.allowed in
    row_below _ c.self.inside.waiting c.from-place.result c.args.plugin c.from-place.ensures can.row

pub index_mut-requires-2 : goal.index_mut-requires-2
index_mut-requires-2 g c =
    let can = can_register c.args.self.now _ c.args.plugin c.args.spec c.self.view_is c.self.invariant c.requires.allowed in
    omega (arith, can.room, c.from-place.ensures)

pub invariant_of-self-2 : goal.invariant_of-self-2
invariant_of-self-2 g c =
    let plugin = c.args.plugin in
    let spec = c.args.spec in
    let harts = c.harts-harts.ensures.harts in
    let order = Register plugin spec in
    let may = may_control c.args.self.now _ c.args.origin order c.self.view_is c.requires.legal c.requires.allowed in
    let same : Register plugin c.in_ok-copied.field-0 ≡ order = ap (λ (s : SetSpec). Register plugin s) c.in_ok-copied.ensures in
    let place : c.from-place.result - 1 ≡ plugin - 1 = ap (λ (n : ℕ). n - 1) c.from-place.ensures in
    registered_sound _ c.args.origin plugin spec c.record_order-self-inside.result.items c.record_order-self-inside.new.journal
    c.record_order-self-inside.new.registry _ _ _ c.in_ok-closing.closing _ _ c.self.invariant may
    (c.record_order-self-inside.ensures.past ∙ ap (λ (o : Order). Ordered c.args.origin o ∷ c.self.inside.past.items) same)
    (c.record_order-self-inside.ensures.journal
    ∙ ap (λ (o : Order). Ordered c.args.origin o ∷ log c.room_for_order.new.journal.entries) same
    ∙ ap (λ (es : List Entry). Ordered c.args.origin order ∷ log es) c.room_for_order.ensures.entries)
    (c.record_order-self-inside.ensures.table ∙ ap (λ (o : Order). after_order o c.room_for_order.new.registry.table) same
    ∙ ap (λ (r : Plugins). after_order order r) c.room_for_order.ensures.table)
    (row_set _ c.self.inside.waiting.items _ (c.from-place.result - 1) (plugin - 1) c.arrivals_in-row.result _ refl
    (c.arrivals_in-row.ensures.sets ∙ ap (λ (n : ℕ). replicate n (Some (opening plugin spec))) harts) place)
    (row_set _ c.self.inside.waiting.items _ (c.from-place.result - 1) (plugin - 1) c.arrivals_in-row.result _ refl
    (c.arrivals_in-row.ensures.specs ∙ ap (λ (n : ℕ). replicate n (Some spec)) harts) place)
    (ap (λ (k : ℕ). slice_set c.self.inside.rooms.items k c.in_ok-closing.closing) place)
    (subst (λ (n : ℕ). IsRoomFor n c.in_ok-closing.closing) harts c.in_ok-closing.ensures.room)
    (omega (arith, c.arrivals_in-row.ensures.left, ap (λ (n : ℕ). n * calling spec.subs) harts))
    (ap (λ v. vec_len v) c.arrivals_in-row.ensures.closers)
