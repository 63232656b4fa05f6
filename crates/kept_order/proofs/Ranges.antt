-- Tests of the numbers in a range.
use Rattle.std.proofs.Common.{◌≡◌, ◌==◌, ◌+◌, ◌<◌, ◌≤◌, ℕ, zero, suc, Bool, true, false, refl, ap, arith, inl, inr, ◌∙◌}
use Rattle.std.specs.List.{list_all, list_any, range_with_len}
use Rattle.std.specs.Cmp.Derive.{both_true}
use Rattle.std.proofs.lemmas.Bool.{cases_Bool, or_parts}
use Rattle.std.proofs.lemmas.Bool.Decides.{nat_tests}
use Rattle.run_rules.proofs.Turns.{first_true, rest_true}

pub all_at : (f : ℕ → Bool) (a n k : ℕ) → list_all f (range_with_len a n) ≡ true → a ≤ k → k < a + n → f k ≡ true
all_at f a zero k every low high = absurd (omega (arith, low, high))
all_at f a (suc n) k every low high =
    elim (cases_Bool (a == k)) [
      | inl at ↦
          let e : k ≡ a = grind (arith, nat_tests, at) in
          ap f e ∙ first_true (f a) _ every
      | inr off ↦
          let above : a + 1 ≤ k = grind (arith, nat_tests, off, low) in
          all_at f (a + 1) n k (rest_true (f a) _ every) above (omega (arith, high))
    ]

pub all_of : (f : ℕ → Bool) (a n : ℕ) → ((k : ℕ) → a ≤ k → k < a + n → f k ≡ true) → list_all f (range_with_len a n) ≡ true
all_of f a zero each = refl
all_of f a (suc n) each =
    both_true (each a (omega arith) (omega arith))
    (all_of f (a + 1) n (λ k low high. each k (omega (arith, low)) (omega (arith, high))))

pub none_at : (f : ℕ → Bool) (a n k : ℕ) → list_any f (range_with_len a n) ≡ false → a ≤ k → k < a + n → f k ≡ false
none_at f a zero k none low high = absurd (omega (arith, low, high))
none_at f a (suc n) k none low high =
    let parts = or_parts (f a) (list_any f (range_with_len (a + 1) n)) none in
    elim (cases_Bool (a == k)) [
      | inl at ↦
          let e : k ≡ a = grind (arith, nat_tests, at) in
          ap f e ∙ parts.0
      | inr off ↦
          let above : a + 1 ≤ k = grind (arith, nat_tests, off, low) in
          none_at f (a + 1) n k parts.1 above (omega (arith, high))
    ]
