-- The passes of a gate as they are made, the last of them taken away.
use Rattle.std.proofs.Common.{◌≡◌, ◌<◌, ◌++◌, ◌∷◌, ◌∙◌, ◌+◌, ℕ, suc, List, [], Some, refl, sym, ap, subst, arith, length, map, get_or}
use Rattle.std.specs.Prelude.{All}
use Rattle.std.specs.List.{range_with_len, slice_get}
use Rattle.std.proofs.Math.Seq.{get_or-append_seam}
use Rattle.std.proofs.lemmas.List.{get_or_append_left, get_or-map, length-append, length-map}
use Rattle.std.proofs.lemmas.Option.{slice_get-get_or}
use Rattle.flat_model.specs.declared.journals.Item.{Item}
use Rattle.run_order.specs.InOrder.{Task}
use Rattle.baton_gate.specs.declared.passes.Pass.{Pass}
use Rattle.baton_gate.specs.declared.gate.Gate.{Gate}
use Rattle.baton_gate.specs.Passes.{AreNew, IsNewPass}

numbered : {A : Type 0} (number : A → ℕ) (xs : List A) (a : ℕ) → ((k : ℕ) (d : A) → k < length xs → number (get_or xs k d) ≡ a + k)
    → map number xs ≡ range_with_len a (length xs)
numbered number [] a each = refl
numbered number (x ∷ xs) a each =
    let first : number x ≡ a = each 0 x (omega arith) ∙ omega arith in
    let rest = numbered number xs (a + 1) (λ k d low. each (suc k) d (omega (arith, low)) ∙ omega arith) in
    λ i. first i ∷ rest i

module _ {S : Type 0} (gate : Gate S Item Task) (count n : ℕ) (log : List Item) (frame : Task) (items rest : List (Pass S Item Task))
    (own : Pass S Item Task) (new : AreNew gate items count log frame) (len : length items ≡ n + 1) (is : items ≡ rest ++ own ∷ []) where
  many : length rest ≡ n
  many =
      let same = ap (λ (xs : List (Pass S Item Task)). length xs) is in
      let sum = length-append rest (own ∷ []) in
      omega (arith, len, same, sum)

  pub own_new : IsNewPass gate own n count log frame
  own_new =
      new n own (slice_get-get_or items n own (omega (arith, len))
      ∙ ap (λ x. Some x) (ap (λ xs. get_or xs n own) is ∙ ap (λ k. get_or (rest ++ own ∷ []) k own) (sym many)
      ∙ get_or-append_seam rest own [] own))

  each_new : (k : ℕ) (d : Pass S Item Task) → k < length rest → IsNewPass gate (get_or rest k d) k count log frame
  each_new k d low =
      new k (get_or rest k d) (slice_get-get_or items k d (omega (arith, len, many, low))
      ∙ ap (λ x. Some x) (ap (λ xs. get_or xs k d) is ∙ get_or_append_left rest (own ∷ []) d k low))

  module _ {R : Type 0} (pass_of : R → Pass S Item Task) (rs : List R) (same : map pass_of rs ≡ rest) where
    as_many : length rs ≡ length rest
    as_many = sym (length-map rs pass_of) ∙ ap (λ (xs : List (Pass S Item Task)). length xs) same

    at_number : (k : ℕ) (d : R) → k < length rs → IsNewPass gate (pass_of (get_or rs k d)) k count log frame
    at_number k d low =
        let it : get_or rest k (pass_of d) ≡ pass_of (get_or rs k d) =
        ap (λ xs. get_or xs k (pass_of d)) (sym same) ∙ get_or-map pass_of rs k d (pass_of d) low in
        subst (λ p. IsNewPass gate p k count log frame) it (each_new k (pass_of d) (omega (arith, low, as_many)))

    pub low_number : (k : ℕ) (d : R) → k < length rs → (pass_of (get_or rs k d)).party < n
    low_number k d low = omega (arith, (at_number k d low).number_is, low, as_many, many)

    pub runner_new : (k : ℕ) (d : R) → k < length rs
        → IsNewPass gate (pass_of (get_or rs k d)) (pass_of (get_or rs k d)).party count log frame
    runner_new k d low =
        subst (λ number. IsNewPass gate (pass_of (get_or rs k d)) number count log frame) (sym (at_number k d low).number_is)
        (at_number k d low)

    pub all_numbers : map (λ r. (pass_of r).party) rs ≡ range_with_len 0 n
    all_numbers =
        numbered (λ r. (pass_of r).party) rs 0 (λ k d low. (at_number k d low).number_is ∙ omega arith)
        ∙ ap (λ k. range_with_len 0 k) (as_many ∙ many)
