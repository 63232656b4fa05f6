use Rattle.std.proofs.Common.{◌≡◌, ◌∷◌, ◌++◌, [], ◌∙◌, ◌+◌, ◌*◌, ℕ, List, Option, Some, None, replicate, vec_len, refl, ap, subst, arith}
use Rattle.flat_model.specs.declared.plugins.SetSpec.{SetSpec}
use Rattle.flat_model.specs.declared.journals.Entry.{Entry}
use Rattle.flat_model.specs.declared.journals.Item.TheVariants.{Ordered}
use Rattle.flat_model.specs.declared.journals.Order.{Order}
use Rattle.flat_model.specs.declared.journals.Order.TheVariants.{Install}
use Rattle.flat_model.specs.Acts.{calling}
use Rattle.flat_model.specs.Log.{log}
use Rattle.flat_model.specs.Registry.{Plugins, after_order}
use Rattle.watcher_api.specs.Attachment.{Attachment, opening}
use Rattle.host_state.specs.Rooms.{IsRoomFor}
use Rattle.host_state.proofs.Controlling.{may_control, can_install, as_before, roomier_is_sound, same_map, on_err}
use Rattle.host_state.proofs.Starting.{pushed, untold, installed_is_sound}
use Rattle.host_state.proofs.states.HostState.install_by.Goals as goal

pub overflow_add-number : goal.overflow_add-number
overflow_add-number g c =
    let can = can_install c.args.self.now _ c.args.spec c.self.view_is c.self.invariant c.requires.allowed in
    omega (arith, can.number, c.count-number.ensures)

pub arrivals_in-requires-clause-most : goal.arrivals_in-requires-clause-most
arrivals_in-requires-clause-most g c =
    let can = can_install c.args.self.now _ c.args.spec c.self.view_is c.self.invariant c.requires.allowed in
    omega (arith, can.number, c.count-number.ensures)

pub arrivals_in-requires-clause-subs : goal.arrivals_in-requires-clause-subs
arrivals_in-requires-clause-subs g c =
    (can_install c.args.self.now _ c.args.spec c.self.view_is c.self.invariant c.requires.allowed).attachable.subs

pub arrivals_in-requires-clause-entries : goal.arrivals_in-requires-clause-entries
arrivals_in-requires-clause-entries g c =
    (can_install c.args.self.now _ c.args.spec c.self.view_is c.self.invariant c.requires.allowed).attachable.entries

pub arrivals_in-requires-clause-boxes : goal.arrivals_in-requires-clause-boxes
arrivals_in-requires-clause-boxes g c =
    let can = can_install c.args.self.now _ c.args.spec c.self.view_is c.self.invariant c.requires.allowed in
    omega (arith, can.boxes, ap (λ (n : ℕ). n * calling c.args.spec.subs) c.harts-harts.ensures.harts)

pub spare_closer-requires : goal.spare_closer-requires
spare_closer-requires g c =
    let can = can_install c.args.self.now _ c.args.spec c.self.view_is c.self.invariant c.requires.allowed in
    record { enough = omega (arith, can.closer, ap (λ v. vec_len v) c.arrivals_in.ensures.closers) }

pub invariant_of-self-2 : goal.invariant_of-self-2
invariant_of-self-2 g c =
    let origin = c.args.origin in
    let spec = c.args.spec in
    let harts = c.harts-harts.ensures.harts in
    let order = Install spec in
    let may = may_control c.args.self.now _ origin order c.self.view_is c.requires.legal c.requires.allowed in
    let same : Install c.in_ok-copied.field-0 ≡ order = ap (λ (s : SetSpec). Install s) c.in_ok-copied.ensures in
    installed_is_sound _ _ origin spec c.self.invariant may.legal (record {
      task = refl;
      memory = refl;
      services = refl;
      table = c.record_order-self-inside.ensures.table ∙ ap (λ (o : Order). after_order o c.room_for_order.new.registry.table) same
          ∙ ap (λ (r : Plugins). after_order order r) c.room_for_order.ensures.table;
      journal = c.record_order-self-inside.ensures.journal
          ∙ ap (λ (o : Order). Ordered origin o ∷ log c.room_for_order.new.journal.entries) same
          ∙ ap (λ (es : List Entry). Ordered origin order ∷ log es) c.room_for_order.ensures.entries;
      past = c.record_order-self-inside.ensures.past ∙ ap (λ (o : Order). Ordered origin o ∷ c.self.inside.past.items) same;
      waiting = pushed _ c.self.inside.waiting.items _ c.arrivals_in.result _
          (c.push_reserved.ensures.items ∙ ap (λ rows. rows ++ c.arrivals_in.result ∷ []) c.room_for_one_more.ensures.waiting)
          (c.arrivals_in.ensures.sets
          ∙ ap (λ (n : ℕ). replicate n (Some (opening (c.count-number.result + 1) spec))) harts
          ∙ ap (λ (n : ℕ). replicate c.self.inside.task.machine.harts (Some (opening (n + 1) spec))) c.count-number.ensures);
      arriving = pushed _ c.self.inside.waiting.items _ c.arrivals_in.result _
          (c.push_reserved.ensures.items ∙ ap (λ rows. rows ++ c.arrivals_in.result ∷ []) c.room_for_one_more.ensures.waiting)
          (c.arrivals_in.ensures.specs ∙ ap (λ (n : ℕ). replicate n (Some spec)) harts);
      parked = pushed {B = List (Option Attachment)} _ c.self.inside.parked.items _ c.in_ok-none_parked.none_parked _
          (c.push_reserved-2.ensures.items ∙ ap (λ rows. rows ++ c.in_ok-none_parked.none_parked ∷ []) c.room_for_one_more.ensures.parked)
          (c.in_ok-none_parked.ensures.empty ∙ ap (λ (n : ℕ). replicate n None) harts);
      harts = refl;
      closers = pushed _ c.self.inside.closers.items _ c.spare_closer.result _
          (c.push_reserved-3.ensures.items ∙ ap (λ rows. rows ++ c.spare_closer.result ∷ []) c.room_for_one_more.ensures.closers)
          (untold _ _ _ c.spare_closer.ensures.untold);
      rooms = record {
        room = c.in_ok-closing.closing;
        fits = subst (λ (n : ℕ). IsRoomFor n c.in_ok-closing.closing) harts c.in_ok-closing.ensures.room;
        is = c.push_reserved-4.ensures.items ∙ ap (λ rooms. rooms ++ c.in_ok-closing.closing ∷ []) c.room_for_one_more.ensures.rooms;
      };
      boxes = omega (
        arith,
        c.arrivals_in.ensures.left,
        ap (λ v. vec_len v) c.spare_closer.ensures.watchers,
        ap (λ (n : ℕ). n * calling spec.subs) harts,
      );
      spare_closers = c.spare_closer.ensures.left ∙ ap (λ v. vec_len v) c.arrivals_in.ensures.closers;
      failed = refl;
    })

pub invariant_of-self-in_err-room_for_order : goal.invariant_of-self-in_err-room_for_order
invariant_of-self-in_err-room_for_order g c =
    roomier_is_sound _ _ c.self.invariant (as_before _ _ _ _ _ _ _ _ _ refl c.room_for_order.ensures.table c.room_for_order.ensures.entries
    (same_map _ _ _ c.room_for_one_more.ensures.waiting) (same_map _ _ _ c.room_for_one_more.ensures.waiting)
    (same_map _ _ _ c.room_for_one_more.ensures.parked) (same_map _ _ _ c.room_for_one_more.ensures.closers)
    c.room_for_one_more.ensures.rooms)

pub returns-in_err-room_for_order-clause-unchanged : goal.returns-in_err-room_for_order-clause-unchanged
returns-in_err-room_for_order-clause-unchanged g c =
    on_err c.from_residual-in_err-room_for_order.result (as_before _ _ _ _ _ _ _ _ _ c.self.view_is c.room_for_order.ensures.table
    c.room_for_order.ensures.entries (same_map _ _ _ c.room_for_one_more.ensures.waiting)
    (same_map _ _ _ c.room_for_one_more.ensures.waiting) (same_map _ _ _ c.room_for_one_more.ensures.parked)
    (same_map _ _ _ c.room_for_one_more.ensures.closers) c.room_for_one_more.ensures.rooms)
