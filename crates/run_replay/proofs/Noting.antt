-- Lists that are written place after place.
use Rattle.std.proofs.Common.{◌≡◌, ◌≢◌, ◌==◌, ◌+◌, ◌<◌, ◌≤◌, ◌∙◌, ℕ, false, List, length, sym, ap, arith, inl, inr}
use Rattle.std.specs.Prelude.{slice_index_or, slice_set}
use Rattle.std.proofs.lemmas.Bool.{cases_Bool, false≢true}
use Rattle.std.proofs.lemmas.Bool.Decides.{nat_tests}
use Rattle.std.proofs.lemmas.List.{get_or-set_same, get_or-set_other}
use Rattle.run_rules.proofs.Turns.{same}

-- what is written up to a place, once one more is
pub set_more : {A : Type 0} (d : A) (f : ℕ → A) (place : ℕ) (mid after : List A) (x : A) → place < length mid
    → after ≡ slice_set mid place x → x ≡ f place → ((k : ℕ) → k < place → slice_index_or mid k d ≡ f k)
    → (k : ℕ) → k < place + 1 → slice_index_or after k d ≡ f k
set_more {A = A} d f place mid after x there is new before k low = elim (cases_Bool (k == place)) [
  | inl at ↦
      let e : k ≡ place = grind (arith, nat_tests, at) in
      ap (λ (i : ℕ). slice_index_or after i d) e ∙ ap (λ (xs : List A). slice_index_or xs place d) is ∙ get_or-set_same mid place x d
      there ∙ new
      ∙ sym (ap f e)
  | inr off ↦
      let apart : k ≢ place = λ e. false≢true (sym off ∙ ap (λ (n : ℕ). n == place) e ∙ same place) in
      let less : k < place = grind (arith, nat_tests, off, low) in
      ap (λ (xs : List A). slice_index_or xs k d) is ∙ get_or-set_other mid place k x d apart ∙ before k less
]

-- and what isn't written yet
pub set_later : {A : Type 0} (d : A) (place : ℕ) (before mid after : List A) (x : A) → after ≡ slice_set mid place x
    → ((k : ℕ) → place ≤ k → slice_index_or mid k d ≡ slice_index_or before k d)
    → (k : ℕ) → place + 1 ≤ k → slice_index_or after k d ≡ slice_index_or before k d
set_later {A = A} d place before mid after x is was k high =
    let apart : k ≢ place = λ e. absurd (omega (arith, e, high)) in
    ap (λ (xs : List A). slice_index_or xs k d) is ∙ get_or-set_other mid place k x d apart ∙ was k (omega (arith, high))
