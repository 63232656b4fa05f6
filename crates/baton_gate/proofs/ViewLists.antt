-- Lists that are read by `get_elem?`, and sums over them.
use Rattle.std.proofs.Common.{◌≡◌, ◌≢◌, ℕ, zero, suc, ◌+◌, ◌≤◌, List, [], ◌∷◌, ◌++◌, length, set, sym}
use Rattle.std.proofs.Common.{refl, ap, ◌⊎◌, inl, inr, ⊎_elim, sum_by, arith, subst}
use Rattle.std.proofs.lemmas.List.Sums.{sum_by-cons}
use mathlib.Core.Option.{some, some-injective, some-ne-none}
use lib.ListN.{get_elem?}
use Rattle.crossbeam_queue.proofs.Lists.{at_set}

module _ {A : Type 0} where
  -- the sum after a change of one element
  pub sum_at_set : (f : A → ℕ) (xs : List A) (port : ℕ) (v w : A) → get_elem? xs port ≡ some v → sum_by f (set xs port w) + f v ≡ sum_by f xs + f w
  sum_at_set f [] port v w e = absurd (some-ne-none v (sym e))
  sum_at_set f (x ∷ xs) zero v w e = let same : f x ≡ f v = ap f (some-injective x v e) in omega (arith, sum_by-cons f w xs, sum_by-cons f x xs)
  sum_at_set f (x ∷ xs) (suc port) v w e = let ih = sum_at_set f xs port v w e in omega (arith, sum_by-cons f x (set xs port w), sum_by-cons f x xs)

  -- no element is more than the sum
  pub sum_at_le : (f : A → ℕ) (xs : List A) (port : ℕ) (v : A) → get_elem? xs port ≡ some v → f v ≤ sum_by f xs
  sum_at_le f [] port v e = absurd (some-ne-none v (sym e))
  sum_at_le f (x ∷ xs) zero v e = let same : f x ≡ f v = ap f (some-injective x v e) in omega (arith, sum_by-cons f x xs)
  sum_at_le f (x ∷ xs) (suc port) v e = let ih = sum_at_le f xs port v e in omega (arith, sum_by-cons f x xs)

  -- what stands in a list with one more element
  pub at_more : (xs : List A) (y u : A) (port : ℕ) → get_elem? (xs ++ y ∷ []) port ≡ some u → (get_elem? xs port ≡ some u) ⊎ ((port ≡ length xs) × (y ≡ u))
  at_more [] y u zero e = inr (refl, some-injective y u e)
  at_more [] y u (suc port) e = absurd (some-ne-none u (sym e))
  at_more (x ∷ xs) y u zero e = inl e
  at_more (x ∷ xs) y u (suc port) e = ⊎_elim (λ t. inl t) (λ (t : (port ≡ length xs) × (y ≡ u)). inr ((let p = t.0 in omega arith), t.1)) (at_more xs y u port e)

  -- what stands in a list stands below its length
  pub at_below : (xs : List A) (u : A) (port : ℕ) → get_elem? xs port ≡ some u → suc port ≤ length xs
  at_below [] u port e = absurd (some-ne-none u (sym e))
  at_below (x ∷ xs) u zero e = omega arith
  at_below (x ∷ xs) u (suc port) e = let ih = at_below xs u port e in omega arith

  -- what is true of each element stays so after a change of one
  pub all_set : (P : ℕ → A → Type 0) (xs : List A) (port : ℕ) (w : A) → P port w → ((j : ℕ) (u : A) → j ≢ port → get_elem? xs j ≡ some u → P j u)
      → (j : ℕ) (u : A) → get_elem? (set xs port w) j ≡ some u → P j u
  all_set P xs port w mine others j u e = ⊎_elim (λ (x : (j ≡ port) × (w ≡ u)). subst (λ (y : ℕ × A). P y.0 y.1) (λ i. (sym x.0 i, x.1 i)) mine)
      (λ (x : (j ≢ port) × (get_elem? xs j ≡ some u)). others j u x.0 x.1) (at_set xs port j w u e)

  -- the one element of a list of one
  pub at_one : (x u : A) (port : ℕ) → get_elem? (x ∷ []) port ≡ some u → (port ≡ 0) × (x ≡ u)
  at_one x u zero e = (refl, some-injective x u e)
  at_one x u (suc port) e = absurd (some-ne-none u (sym e))
