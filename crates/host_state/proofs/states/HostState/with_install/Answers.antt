use Rattle.std.proofs.Common.{◌∙◌, ◌≡◌, ◌+◌, ◌*◌, ℕ, List, Option, Some, None, replicate, vec_len, refl, ap, subst, arith}
use Rattle.flat_model.specs.Acts.{calling}
use Rattle.watcher_api.specs.Attachment.{Attachment, opening}
use Rattle.host_state.specs.Rooms.{AddsRoom}
use Rattle.host_state.proofs.Starting.{is_next, pushed, untold, started_is_sound, started_more}
use Rattle.host_state.proofs.states.HostState.with_install.Goals as goal

pub arrivals-requires-clause-most : goal.arrivals-requires-clause-most
arrivals-requires-clause-most g c =
    let next = is_next c.args.self _ c.args.i c.in_ok-spec.spec c.install.result.now c.self.view_is c.requires.started c.requires.there
    c.requires.allowed c.self.invariant c.install.ensures.install c.in_ok-spec.ensures in
    omega (arith, next.number, c.count.ensures)

pub arrivals-requires-clause-subs : goal.arrivals-requires-clause-subs
arrivals-requires-clause-subs g c =
    let next = is_next c.args.self _ c.args.i c.in_ok-spec.spec c.install.result.now c.self.view_is c.requires.started c.requires.there
    c.requires.allowed c.self.invariant c.install.ensures.install c.in_ok-spec.ensures in
    next.attachable.subs

pub arrivals-requires-clause-entries : goal.arrivals-requires-clause-entries
arrivals-requires-clause-entries g c =
    let next = is_next c.args.self _ c.args.i c.in_ok-spec.spec c.install.result.now c.self.view_is c.requires.started c.requires.there
    c.requires.allowed c.self.invariant c.install.ensures.install c.in_ok-spec.ensures in
    next.attachable.entries

pub arrivals-requires-clause-enough : goal.arrivals-requires-clause-enough
arrivals-requires-clause-enough g c =
    let next = is_next c.args.self _ c.args.i c.in_ok-spec.spec c.install.result.now c.self.view_is c.requires.started c.requires.there
    c.requires.allowed c.self.invariant c.install.ensures.install c.in_ok-spec.ensures in
    let need : c.harts-harts.result * calling c.in_ok-spec.spec.subs ≡ c.self.inside.task.machine.harts * calling c.in_ok-spec.spec.subs =
    ap (λ (n : ℕ). n * calling c.in_ok-spec.spec.subs) c.harts-harts.ensures.harts in
    omega (arith, next.boxes, need)

pub spare_closer-requires : goal.spare_closer-requires
spare_closer-requires g c =
    let next = is_next c.args.self _ c.args.i c.in_ok-spec.spec c.install.result.now c.self.view_is c.requires.started c.requires.there
    c.requires.allowed c.self.invariant c.install.ensures.install c.in_ok-spec.ensures in
    record { enough = omega (arith, next.closer, ap (λ v. vec_len v) c.in_ok-row.ensures.closers) }

pub record_start-requires : goal.record_start-requires
record_start-requires g c =
    let next = is_next c.args.self _ c.args.i c.in_ok-spec.spec c.install.result.now c.self.view_is c.requires.started c.requires.there
    c.requires.allowed c.self.invariant c.install.ensures.install c.in_ok-spec.ensures in
    record { allowed = next.allowed }

pub invariant_of-self : goal.invariant_of-self
invariant_of-self g c =
    let next = is_next c.args.self _ c.args.i c.in_ok-spec.spec c.install.result.now c.self.view_is c.requires.started c.requires.there
    c.requires.allowed c.self.invariant c.install.ensures.install c.in_ok-spec.ensures in
    let spec = c.in_ok-spec.spec in
    let harts = c.self.inside.task.machine.harts in
    started_is_sound _ _ c.args.i c.in_ok-spec.spec c.self.invariant next (record {
      task = refl;
      memory = refl;
      services = refl;
      table = c.in_ok-self-inside.ensures.table;
      journal = c.in_ok-self-inside.ensures.journal;
      past = c.in_ok-self-inside.ensures.past;
      waiting = pushed _ _ _ _ _ c.in_ok-push.ensures.items (c.in_ok-row.ensures.sets
          ∙ ap (λ (n : ℕ). replicate n (Some (opening (c.count.result + 1) spec))) c.harts-harts.ensures.harts
          ∙ ap (λ (n : ℕ). replicate harts (Some (opening (n + 1) spec))) c.count.ensures);
      arriving = pushed _ _ _ _ _ c.in_ok-push.ensures.items
          (c.in_ok-row.ensures.specs ∙ ap (λ (n : ℕ). replicate n (Some spec)) c.harts-harts.ensures.harts);
      parked = pushed {B = List (Option Attachment)} _ _ _ _ _ c.in_ok-push-2.ensures.items
          (c.in_ok-empty_row.ensures.empty ∙ ap (λ (n : ℕ). replicate n None) c.harts-harts.ensures.harts);
      harts = refl;
      closers = pushed _ _ _ _ _ c.in_ok-push-3.ensures.items (untold _ _ _ c.spare_closer.ensures.untold);
      rooms = subst (λ (n : ℕ). AddsRoom n c.self.inside.rooms.items c.add_room.new.rooms.items) c.harts-harts.ensures.harts
          c.in_ok-add_room.ensures.added;
      boxes = omega (
        arith,
        c.in_ok-row.ensures.left,
        ap (λ v. vec_len v) c.spare_closer.ensures.watchers,
        ap (λ (n : ℕ). n * calling spec.subs) c.harts-harts.ensures.harts,
      );
      spare_closers = c.spare_closer.ensures.left ∙ ap (λ v. vec_len v) c.in_ok-row.ensures.closers;
      failed = refl;
    })

pub returns : goal.returns
returns g c =
    let next = is_next c.args.self _ c.args.i c.in_ok-spec.spec c.install.result.now c.self.view_is c.requires.started c.requires.there
    c.requires.allowed c.self.invariant c.install.ensures.install c.in_ok-spec.ensures in
    record {
      started = started_more c.args.self _ _ c.args.i c.in_ok-spec.spec c.self.view_is next refl c.in_ok-self-inside.ensures.past refl;
    }
