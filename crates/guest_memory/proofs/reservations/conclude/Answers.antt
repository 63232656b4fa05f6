use Rattle.std.proofs.Common.{◌≡◌, ℕ, ◌<◌, length, slice_index_or, None, Option, cond, arith, ◌∙◌, refl}
use Rattle.flat_model.specs.Access.{ended}
use Rattle.guest_memory.proofs.Reserves.{with_set, with_along}
use Rattle.guest_memory.proofs.reservations.conclude.Goals as goal
use Rattle.guest_memory.proofs.reservations.conclude.Goals.{then-stored, else-stored}

pub returns : goal.returns
returns c =
    let before : ℕ → Option ℕ = λ j. slice_index_or c.args.reservations.now j None in
    let after : ℕ → Option ℕ = cond c.args.stored (ended (λ j. slice_index_or c.args.reservations.now j None) c.args.hart c.args.addr
    c.args.n) (λ j. slice_index_or c.args.reservations.now j None) in
    let each : (k : ℕ) → k < length c.args.reservations.now
    → slice_index_or c.if-stored.reservations k None ≡ cond c.args.stored
    (ended (λ j. slice_index_or c.args.reservations.now j None) c.args.hart c.args.addr c.args.n)
    (λ j. slice_index_or c.args.reservations.now j None) k = λ k below. elim c.if-stored.branch [
      | then-stored w ↦ rw (w.reservations-is, w.if-stored.true) (w.end_others.ensures.others k below)
      | else-stored w ↦ rw (w.reservations-is, w.if-stored.false) refl
    ] in
    record {
      concluded = λ k below.
          with_set c.if-stored.reservations c.args.hart k None (omega (arith, c.if-stored.auto.reservations, c.requires))
          ∙ with_along (λ j. slice_index_or c.if-stored.reservations j None)
          (cond c.args.stored (ended (λ j. slice_index_or c.args.reservations.now j None) c.args.hart c.args.addr c.args.n)
          (λ j. slice_index_or c.args.reservations.now j None)) c.args.hart k None (each k below);
    }
