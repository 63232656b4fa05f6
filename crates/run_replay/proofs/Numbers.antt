-- Tests of the numbers of plug-ins.
use Rattle.std.proofs.Common.{◌≡◌, ◌+◌, ◌<◌, ◌≤◌, ◌∙◌, ℕ, zero, suc, Bool, true, false, refl, sym, ap, arith, inl, inr, ◌||◌, nat_le}
use Rattle.std.proofs.lemmas.Bool.{cases_Bool, false≢true, leb-true, leb-false}
use Rattle.std.specs.List.{list_any, list_all, range_with_len}
use Rattle.kept_order.proofs.Ranges.{all_at, none_at}

-- none of them
pub none_of : (f : ℕ → Bool) (a n : ℕ) → ((k : ℕ) → a ≤ k → k < a + n → f k ≡ false) → list_any f (range_with_len a n) ≡ false
none_of f a zero none = refl
none_of f a (suc n) none =
    ap (λ (b : Bool). b || list_any f (range_with_len (a + 1) n)) (none a (omega arith) (omega arith))
    ∙ none_of f (a + 1) n (λ k low high. none k (omega (arith, low)) (omega (arith, high)))

-- one of them
pub some_of : (f : ℕ → Bool) (a n k : ℕ) → a ≤ k → k < a + n → f k ≡ true → list_any f (range_with_len a n) ≡ true
some_of f a n k low high is = elim (cases_Bool (list_any f (range_with_len a n))) [
  | inl some ↦ some
  | inr none ↦ absurd (false≢true (sym (none_at f a n k none low high) ∙ is))
]

-- all but one
pub not_all : (f : ℕ → Bool) (a n k : ℕ) → a ≤ k → k < a + n → f k ≡ false → list_all f (range_with_len a n) ≡ false
not_all f a n k low high off = elim (cases_Bool (list_all f (range_with_len a n))) [
  | inl every ↦ absurd (false≢true (sym off ∙ all_at f a n k every low high))
  | inr some ↦ some
]

-- each of them, where one more is
pub one_more : (f : ℕ → Bool) (n : ℕ) → ((p : ℕ) → 1 ≤ p → p ≤ n → f p ≡ true) → f (n + 1) ≡ true
    → (p : ℕ) → 1 ≤ p → p ≤ n + 1 → f p ≡ true
one_more f n before now p one most = elim (cases_Bool (nat_le p n)) [
  | inl low ↦ before p one (leb-true p n low)
  | inr high ↦ let e : p ≡ n + 1 = omega (arith, leb-false p n high) in ap f e ∙ now
]

-- and from 0 on
pub one_behind : (f : ℕ → Bool) (n : ℕ) → ((k : ℕ) → k < n → f k ≡ true) → f n ≡ true → (k : ℕ) → k < n + 1 → f k ≡ true
one_behind f n before now k most = elim (cases_Bool (nat_le n k)) [
  | inl high ↦ let e : k ≡ n = omega (arith, leb-true n k high, most) in ap f e ∙ now
  | inr low ↦ before k (omega (arith, leb-false n k low))
]
