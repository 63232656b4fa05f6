-- What follows from the answer of a chain of tests, each against a number.
use Rattle.std.proofs.Common.{◌≡◌, ℕ, Bool, ◌==◌, if◌then◌else◌, Option, Some, None, ap, ◌∙◌, sym, subst, inl, inr}
use Rattle.std.proofs.Common.{refl}
use Rattle.std.proofs.lemmas.Bool.{cases_eq, eq-eqb, ne_eqb}
use Rattle.std.specs.Prelude.{option_map, option_and_then}

pub found : {A : Type 0} (P : A → Type 0) (x answer : A) → P x → Some x ≡ Some answer → P answer
found P x answer holds e = let same : x ≡ answer = cc in subst P same holds

pub nothing : {A : Type 0} (P : A → Type 0) (answer : A) → None ≡ Some answer → P answer
nothing {A = A} P answer e = let no_answer : ⊥ = cc in absurd no_answer

-- the answer is that of the test, or of the rest of the chain
pub choose :
    {A : Type 0} (P : A → Type 0) (n k : ℕ) (x rest : Option A) (answer : A)
    → (n ≡ k → x ≡ Some answer → P answer) → (rest ≡ Some answer → P answer)
    → (if n == k then x else rest) ≡ Some answer → P answer
choose {A = A} P n k x rest answer here there e =
    let taken : Bool → Option A = λ b. if b then x else rest in
    elim (cases_eq n k) [
      | inl h ↦ here h (sym (ap taken (eq-eqb n k h)) ∙ e)
      | inr h ↦ there (sym (ap taken (ne_eqb n k h)) ∙ e)
    ]

-- the answer of a chain whose answer goes into `f`
pub mapped :
    {A B : Type 0} (f : A → B) (P : B → Type 0) (o : Option A) (answer : B)
    → ((a : A) → o ≡ Some a → P (f a)) → option_map f o ≡ Some answer → P answer
mapped f P None answer holds e = nothing P answer e
mapped f P (Some a) answer holds e = found P (f a) answer (holds a refl) e

-- the answer of a chain that goes on with `f`
pub chained :
    {A B : Type 0} (f : A → Option B) (P : B → Type 0) (o : Option A) (answer : B)
    → ((a : A) → o ≡ Some a → f a ≡ Some answer → P answer) → option_and_then f o ≡ Some answer → P answer
chained f P None answer holds e = nothing P answer e
chained f P (Some a) answer holds e = holds a refl e
