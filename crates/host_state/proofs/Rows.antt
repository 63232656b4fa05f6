-- Steps of a hart in two rows, one behind the other.
use Rattle.std.proofs.Common.{◌≡◌, ◌+◌, ◌++◌, ◌∙◌, ℕ, zero, suc, List, sym, ap, arith}
use Rattle.std.proofs.Common.{append_assoc, append-nil}
use Rattle.flat_model.specs.declared.events.Event.{Event}
use Rattle.flat_model.specs.Step.{Stepped, step_of, steps_of}
use Rattle.flat_model.specs.World.{Machine, HartState, Shared}

suc_out : (n k : ℕ) → n + suc k ≡ suc (n + k)
suc_out n k = omega arith

-- n steps and then k are n + k
abbrev pub and_then : Stepped → Stepped → Stepped
and_then a b = record { hart = b.hart; shared = b.shared; events = a.events ++ b.events }

pub in_a_row : (m : Machine) (h n k : ℕ) (hart : HartState) (shared : Shared)
    → steps_of m h (n + k) hart shared
    ≡ and_then (steps_of m h n hart shared)
    (steps_of m h k (steps_of m h n hart shared).hart (steps_of m h n hart shared).shared)
unfolding steps_of
in_a_row m h n zero hart shared =
    let a = steps_of m h n hart shared in
    ap (λ i. steps_of m h i hart shared) (let e : n + 0 ≡ n = omega arith in e)
    ∙ ap (λ (es : List Event). record { hart = a.hart; shared = a.shared; events = es }) (sym (append-nil a.events))
in_a_row m h n (suc k) hart shared =
    let a = steps_of m h n hart shared in
    let b = steps_of m h k a.hart a.shared in
    let s = step_of m h b.hart b.shared in
    let next : Stepped → Stepped = λ x. and_then x (step_of m h x.hart x.shared) in
    ap (λ i. steps_of m h i hart shared) (suc_out n k)
    ∙ (ap next (in_a_row m h n k hart shared)
    ∙ ap (λ (es : List Event). record { hart = s.hart; shared = s.shared; events = es }) (append_assoc a.events b.events s.events))
