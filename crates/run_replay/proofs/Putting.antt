-- A place that is written twice.
use Rattle.std.proofs.Common.{◌≡◌, ◌∷◌, [], ℕ, zero, suc, List, refl, ap}
use Rattle.std.specs.Prelude.{slice_set}

pub set_twice : {A : Type 0} (xs : List A) (i : ℕ) (a b : A) → slice_set (slice_set xs i a) i b ≡ slice_set xs i b
set_twice [] i a b = refl
set_twice (x ∷ xs) zero a b = refl
set_twice {A = A} (x ∷ xs) (suc i) a b = ap (λ (ys : List A). x ∷ ys) (set_twice xs i a b)
