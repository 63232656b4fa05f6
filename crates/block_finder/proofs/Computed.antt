-- The length as a number is the length of the block.
use Rattle.std.proofs.Common.{◌≡◌, ◌+◌, ◌-◌, ◌*◌, ◌/◌, ◌%◌, ◌<◌, ◌≤◌, ◌⊎◌, ℕ, zero, suc, min}
use Rattle.std.proofs.Common.{cond, Bool}
use Rattle.std.proofs.Common.{true, false, Option, Some, None, is_some, IsSome, refl, sym, ◌∙◌, ap, subst, inl, inr, arith}
use Rattle.std.specs.Option.{option_map_or}
use Rattle.std.proofs.lemmas.Bool.{false≢true, cases_order}
use Rattle.flat_model.specs.Image.{Program, word_at}
use Rattle.flat_model.specs.Blocks.{word_ends, EndsAt, StopsAfter, IsLength, counted}
use Rattle.flat_model.specs.Blocks.{length_within, length_of, LengthIsOne, LengthIsComputed}

-- n is the length of the block at pc where so many words are in reach
record IsWithin (image : Program) (pc left n : ℕ) : Type 0 where
  pub most : n ≤ left
  pub present : (k : ℕ) → k < n → IsSome (word_at image (pc + 4 * k))
  pub goes_on : (k : ℕ) → k + 1 < n → EndsAt image (pc + 4 * k) → ⊥
  pub stops : (n ≡ left) ⊎ (word_at image (pc + 4 * n) ≡ None) ⊎ ((last : ℕ) × (n ≡ last + 1) × EndsAt image (pc + 4 * last))

here : (pc : ℕ) → pc ≡ pc + 4 * 0
here pc = omega arith

behind : (pc k : ℕ) → pc + 4 + 4 * k ≡ pc + 4 * suc k
behind pc k = omega arith

each_present : (image : Program) (pc m : ℕ) → IsSome (word_at image pc)
    → ((k : ℕ) → k < m → IsSome (word_at image (pc + 4 + 4 * k)))
    → (k : ℕ) → k < suc m → IsSome (word_at image (pc + 4 * k))
each_present image pc m first rest zero below = subst (λ at. IsSome (word_at image at)) (here pc) first
each_present image pc m first rest (suc k) below =
    subst (λ at. IsSome (word_at image at)) (behind pc k) (rest k (omega (arith, below)))

each_goes_on : (image : Program) (pc m : ℕ) → (EndsAt image pc → ⊥)
    → ((k : ℕ) → k + 1 < m → EndsAt image (pc + 4 + 4 * k) → ⊥)
    → (k : ℕ) → k + 1 < suc m → EndsAt image (pc + 4 * k) → ⊥
each_goes_on image pc m first rest zero below = subst (λ at. EndsAt image at → ⊥) (here pc) first
each_goes_on image pc m first rest (suc k) below =
    subst (λ at. EndsAt image at → ⊥) (behind pc k) (rest k (omega (arith, below)))

one_more : (image : Program) (pc left m : ℕ)
    → (m ≡ left) ⊎ (word_at image (pc + 4 + 4 * m) ≡ None) ⊎ ((last : ℕ) × (m ≡ last + 1) × EndsAt image (pc + 4 + 4 * last))
    → (suc m ≡ suc left) ⊎ (word_at image (pc + 4 * suc m) ≡ None) ⊎ ((last : ℕ) × (suc m ≡ last + 1) × EndsAt image (pc + 4 * last))
one_more image pc left m (inl full) = inl (ap suc full)
one_more image pc left m (inr (inl absent)) = inr (inl (subst (λ at. word_at image at ≡ None) (behind pc m) absent))
one_more image pc left m (inr (inr (last, is, ends))) =
    inr (inr (suc last, omega (arith, is), subst (λ at. EndsAt image at) (behind pc last) ends))

-- behind a present word
after_word : (image : Program) (pc left m word : ℕ) (ends : Bool)
    → word_at image pc ≡ Some word → word_ends word ≡ ends → IsWithin image (pc + 4) left m
    → IsWithin image pc (suc left) (cond ends 1 (suc m))
after_word image pc left m word true at is rest = record {
  most = omega arith;
  present = each_present image pc 0 (rw at refl) (λ k below. absurd (omega (arith, below)));
  goes_on = λ k below. absurd (omega (arith, below));
  stops =
      let ends : EndsAt image pc = rw at is in
      inr (inr (0, refl, subst (λ at. EndsAt image at) (here pc) ends));
}
after_word image pc left m word false at is rest = record {
  most = omega (arith, rest.most);
  present = each_present image pc m (rw at refl) rest.present;
  goes_on =
      let none : option_map_or word_ends (word_at image pc) false ≡ false = rw at is in
      each_goes_on image pc m (λ ends. false≢true (sym none ∙ ends)) rest.goes_on;
  stops = one_more image pc left m rest.stops;
}

after : (image : Program) (pc left m : ℕ) (word : Option ℕ)
    → word_at image pc ≡ word → IsWithin image (pc + 4) left m → IsWithin image pc (suc left) (counted word m)
after image pc left m None at rest = record {
  most = omega arith;
  present = λ k below. absurd (omega (arith, below));
  goes_on = λ k below. absurd (omega (arith, below));
  stops = inr (inl (subst (λ at. word_at image at ≡ None) (here pc) at));
}
after image pc left m (Some word) at rest = after_word image pc left m word (word_ends word) at refl rest

within : (image : Program) (pc left : ℕ) → IsWithin image pc left (length_within image pc left)
unfolding length_within
within image pc zero = record {
  most = omega arith;
  present = λ k below. absurd (omega (arith, below));
  goes_on = λ k below. absurd (omega (arith, below));
  stops = inl refl;
}
within image pc (suc left) = after image pc left (length_within image (pc + 4) left) (word_at image pc) refl (within image (pc + 4) left)

-- what stops a block at the last word in reach is its size or its page
stops_in_reach : (image : Program) (pc left n : ℕ)
    → (left ≡ 512) ⊎ (pc % 4096 + 4 * left ≡ 4096)
    → (n ≡ left) ⊎ (word_at image (pc + 4 * n) ≡ None) ⊎ ((last : ℕ) × (n ≡ last + 1) × EndsAt image (pc + 4 * last))
    → StopsAfter image pc n
stops_in_reach image pc left n (inl full) (inl is) = inl (is ∙ full)
stops_in_reach image pc left n (inr page) (inl is) = inr (inl (ap (λ k. pc % 4096 + 4 * k) is ∙ page))
stops_in_reach image pc left n reach (inr earlier) = inr (inr earlier)

long : (image : Program) (pc left n : ℕ) → left ≤ 512 → pc % 4096 + 4 * left ≤ 4096
    → (left ≡ 512) ⊎ (pc % 4096 + 4 * left ≡ 4096) → IsWithin image pc left n → IsLength image pc n
long image pc left n most in_page reach is = record {
  most = omega (arith, most, is.most);
  in_page = omega (arith, in_page, is.most);
  present = is.present;
  goes_on = is.goes_on;
  stops = stops_in_reach image pc left n reach is.stops;
}

reach : (pc left : ℕ) → pc % 4 ≡ 0 → left ≡ min 512 ((4096 - pc % 4096) / 4) → (left ≡ 512) ⊎ (pc % 4096 + 4 * left ≡ 4096)
reach pc left aligned is = grind (arith, aligned, is)

pub length_is_computed : LengthIsComputed
unfolding length_of
length_is_computed image pc aligned =
    let left = min 512 ((4096 - pc % 4096) / 4) in
    long image pc left (length_within image pc left) (omega (arith, aligned)) (omega (arith, aligned))
    (reach pc left aligned refl) (within image pc left)

-- no length is shorter than another
shorter : (image : Program) (pc n m : ℕ) → StopsAfter image pc n → IsLength image pc m → n < m → ⊥
shorter image pc n m (inl full) is less = omega (arith, full, is.most, less)
shorter image pc n m (inr (inl page)) is less = omega (arith, page, is.in_page, less)
shorter image pc n m (inr (inr (inl absent))) is less =
    let found : IsSome (word_at image (pc + 4 * n)) = is.present n less in
    false≢true (sym (ap (λ (w : Option ℕ). is_some w) absent) ∙ found)
shorter image pc n m (inr (inr (inr (last, at, ends)))) is less = is.goes_on last (omega (arith, at, less)) ends

one_length : LengthIsOne
one_length image pc n m is other =
    elim (cases_order n m) [
      | inl same ↦ same
      | inr (inl less) ↦ absurd (shorter image pc n m is.stops other less)
      | inr (inr more) ↦ absurd (shorter image pc m n other.stops is more)
    ]
