-- What holds of each pair of a list, by recursion on the list.
use Rattle.std.proofs.Common.{ℕ, zero, suc, ◌<◌, List, [], ◌∷◌, length, get_or, map, filter, cond, Bool, true, false, arith}
use Rattle.std.specs.List.{AllByRecursion}

-- R holds of each element and each later one
abbrev pub Pairwise : {X : Type 0} → (X → X → Type 0) → List X → Type 0
Pairwise R [] = Unit {0}
Pairwise R (x ∷ xs) = AllByRecursion (R x) xs × Pairwise R xs

pub each-weaker : {X : Type 0} (P Q : X → Type 0) → ((x : X) → P x → Q x) → (xs : List X) → AllByRecursion P xs → AllByRecursion Q xs
each-weaker P Q f [] all = tt
each-weaker P Q f (x ∷ xs) (head, tail) = (f x head, each-weaker P Q f xs tail)

pub each-filter : {X : Type 0} (P : X → Type 0) (test : X → Bool) (xs : List X) → AllByRecursion P xs → AllByRecursion P (filter test xs)
each-filter P test [] all = tt
each-filter P test (x ∷ xs) (head, tail) =
    elim (test x) as (λ b. AllByRecursion P (cond b (x ∷ filter test xs) (filter test xs))) [
      | true ↦ (head, each-filter P test xs tail)
      | false ↦ each-filter P test xs tail
    ]

pub pairwise-filter : {X : Type 0} (R : X → X → Type 0) (test : X → Bool) (xs : List X) → Pairwise R xs → Pairwise R (filter test xs)
pairwise-filter R test [] all = tt
pairwise-filter R test (x ∷ xs) (head, tail) =
    elim (test x) as (λ b. Pairwise R (cond b (x ∷ filter test xs) (filter test xs))) [
      | true ↦ (each-filter (R x) test xs head, pairwise-filter R test xs tail)
      | false ↦ pairwise-filter R test xs tail
    ]

pub each-map : {X Y : Type 0} (P : Y → Type 0) (f : X → Y) (xs : List X) → AllByRecursion (λ x. P (f x)) xs → AllByRecursion P (map f xs)
each-map P f [] all = tt
each-map P f (x ∷ xs) (head, tail) = (head, each-map P f xs tail)

pub pairwise-map : {X Y : Type 0} (R : Y → Y → Type 0) (f : X → Y) (xs : List X) → Pairwise (λ x y. R (f x) (f y)) xs
    → Pairwise R (map f xs)
pairwise-map R f [] all = tt
pairwise-map R f (x ∷ xs) (head, tail) = (each-map (R (f x)) f xs head, pairwise-map R f xs tail)

-- by place
pub each-at : {X : Type 0} (P : X → Type 0) (xs : List X) → AllByRecursion P xs → (k : ℕ) (d : X) → k < length xs → P (get_or xs k d)
each-at P [] all k d below = absurd (omega arith)
each-at P (x ∷ xs) (head, tail) zero d below = head
each-at P (x ∷ xs) (head, tail) (suc k) d below = each-at P xs tail k d (omega arith)

pub pairs-at : {X : Type 0} (R : X → X → Type 0) (xs : List X) → Pairwise R xs → (i j : ℕ) (d : X) → i < j → j < length xs
    → R (get_or xs i d) (get_or xs j d)
pairs-at R [] all i j d order below = absurd (omega arith)
pairs-at R (x ∷ xs) (head, tail) i zero d order below = absurd (omega arith)
pairs-at R (x ∷ xs) (head, tail) zero (suc j) d order below = each-at (R x) xs head j d (omega arith)
pairs-at R (x ∷ xs) (head, tail) (suc i) (suc j) d order below = pairs-at R xs tail i j d (omega arith) (omega arith)
