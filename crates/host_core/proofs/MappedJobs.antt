-- Results of jobs that are all there, and what each says of its job.
use Rattle.std.proofs.Common.{◌≡◌, ◌<◌, ◌∷◌, ℕ, suc, List, [], Result, Ok, Err, refl, sym, subst, arith, length, map}
use Rattle.std.specs.Prelude.{All, IfOk, slice_index_or}
use Rattle.std.proofs.lemmas.List.Elements.{All-nil, All-cons}

pub to_ok : {A E : Type 0} (r : Result A E) (P Q : A → Type 0) → ((x : A) → P x → Q x) → IfOk r P → IfOk r Q
to_ok (Ok x) P Q to is = to x is
to_ok (Err e) P Q to is = tt

-- it is like the job that it comes from
abbrev pub IsLike : {X B : Type 0} → (X → Type 0) → (X → B) → X → X → Type 0
IsLike P f j x = P x × (f x ≡ f j)

module _ {X E B : Type 0} where
  pub all_like : (jobs all : List X) (P : X → Type 0) (f : X → B) → length (map {A = X} {B = Result X E} (λ x. Ok x) all) ≡ length jobs
      → ((i : ℕ) (d : Result X E) (e : X) → i < length jobs
      → IfOk (slice_index_or (map {A = X} {B = Result X E} (λ x. Ok x) all) i d) (IsLike P f (slice_index_or jobs i e)))
      → All P all × (map f all ≡ map f jobs)
  all_like [] [] P f len each = (All-nil P, refl)
  all_like [] (x ∷ all) P f len each = absurd (omega (arith, len))
  all_like (j ∷ jobs) [] P f len each = absurd (omega (arith, len))
  all_like (j ∷ jobs) (x ∷ all) P f len each =
      let first : IsLike P f j x = each 0 (Ok x) j (omega arith) in
      let rest = all_like jobs all P f (omega (arith, len)) (λ i d e low. each (suc i) d e (omega (arith, low))) in
      (All-cons P x all first.0 rest.0, λ i. first.1 i ∷ rest.1 i)

  -- where the results are known
  pub results_like : (jobs all : List X) (results : List (Result X E)) (P : X → Type 0) (f : X → B) → map (λ x. Ok x) all ≡ results
      → length results ≡ length jobs
      → ((i : ℕ) (d : Result X E) (e : X) → i < length jobs → IfOk (slice_index_or results i d) (IsLike P f (slice_index_or jobs i e)))
      → All P all × (map f all ≡ map f jobs)
  results_like jobs all results P f is len each =
      let Each : List (Result X E) → Type 0 = λ rs. (length rs ≡ length jobs) × ((i : ℕ) (d : Result X E) (e : X) → i < length jobs
      → IfOk (slice_index_or rs i d) (IsLike P f (slice_index_or jobs i e))) in
      let both = subst Each (sym is) (len, each) in
      all_like jobs all P f both.0 both.1
