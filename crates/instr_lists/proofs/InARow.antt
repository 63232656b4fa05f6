-- Lists in a row, one behind the other.
use Rattle.std.proofs.Common.{◌≡◌, ◌<◌, ◌≤◌, ◌+◌, ◌-◌, ◌∙◌, ◌++◌, ◌∷◌, [], ℕ, zero, suc, true, false, List, length, take, drop, refl, sym, ap, arith}
use Rattle.std.proofs.Common.{length-append, inl, inr}
use Rattle.std.specs.Prelude.{slice_index_or, slice_range, flat_map, ◌==◌}
use Rattle.std.proofs.lemmas.List.{append-nil, take-append-drop, get_or_default}
use Rattle.std.proofs.lemmas.Bool.{cases_eq, eqb-true}
use Rattle.std.proofs.lemmas.Bool.Decides.{nat_tests}
use Rattle.std.proofs.lemmas.Grind.{flat_map-append}
use Rattle.std.proofs.lemmas.List.Folds.{length-flat_map-take}
use Rattle.std.proofs.Math.Seq.{drop-append_seam, take-append_seam}
use Rattle.flat_model.specs.declared.plugins.SetSpec.{SetSpec}
use Rattle.instr_lists.specs.declared.sorts.Sort.{Sort}
use Rattle.instr_lists.specs.declared.sorts.Sort.TheVariants.{Init}
use Rattle.instr_lists.specs.declared.slots.Slot.{Slot}
use Rattle.instr_lists.specs.Slots.{slots_of}
use Rattle.instr_lists.specs.Lists.{IsResolved, start_of}
use Rattle.instr_lists.proofs.Resolving.{drop_here}

pub take_here : {X : Type 0} (xs : List X) (i : ℕ) (x : X) → i < length xs → x ≡ slice_index_or xs i x → take (i + 1) xs ≡ take i xs ++ x ∷ []
take_here [] i x below is = absurd (omega (arith, below))
take_here (y ∷ ys) zero x below is = ap (λ z. z ∷ []) (sym is)
take_here (y ∷ ys) (suc i) x below is =
    let next : suc i + 1 ≡ suc (i + 1) = omega arith in
    rw next (ap (λ l. y ∷ l) (take_here ys i x (omega (arith, below)) is))

pub some_of : (n : ℕ) → (n == 0) ≡ false → 0 < n
some_of n is = grind (arith, nat_tests)

pub none_of : (n : ℕ) → (n == 0) ≡ true → n ≡ 0
none_of n is = eqb-true n 0 is

pub nothing : {X : Type 0} (xs : List X) → length xs ≡ 0 → xs ≡ []
nothing [] is = refl
nothing (x ∷ xs) is = absurd (omega (arith, is))

module _ {X Y : Type 0} (f : X → List Y) (xs : List X) (i : ℕ) (d : X) (below : i < length xs) where
  -- where nothing is, no piece is
  pub piece_of_none : length (flat_map f xs) ≡ 0 → f (slice_index_or xs i d) ≡ []
  piece_of_none none = nothing (f (slice_index_or xs i d)) (omega (arith, none, length-flat_map-take f xs i d below))

  whole_is : (x : X) → x ≡ slice_index_or xs i x
      → flat_map f xs ≡ flat_map f (take i xs) ++ (f x ++ flat_map f (drop (i + 1) xs))
  whole_is x is =
      ap (flat_map f) (sym (take-append-drop i xs) ∙ ap (λ l. take i xs ++ l) (drop_here xs i x below is))
      ∙ flat_map-append f (take i xs) (x ∷ drop (i + 1) xs)

  next_start : (x : X) → x ≡ slice_index_or xs i x
      → length (flat_map f (take (i + 1) xs)) ≡ length (flat_map f (take i xs)) + length (f x)
  next_start x is =
      ap (λ l. length (flat_map f l)) (take_here xs i x below is)
      ∙ (ap length (flat_map-append f (take i xs) (x ∷ []) ∙ ap (λ l. flat_map f (take i xs) ++ l) (append-nil (f x)))
      ∙ length-append (flat_map f (take i xs)) (f x))

  -- the piece at a place
  pub piece : (x : X) → x ≡ slice_index_or xs i x
      → slice_range (flat_map f xs) (length (flat_map f (take i xs))) (length (flat_map f (take (i + 1) xs))) ≡ f x
  piece x is =
      let front = flat_map f (take i xs) in
      let back = flat_map f (drop (i + 1) xs) in
      let long : length (flat_map f (take (i + 1) xs)) - length front ≡ length (f x) = omega (arith, next_start x is) in
      let cut : drop (length front) (flat_map f xs) ≡ f x ++ back =
      ap (drop (length front)) (whole_is x is) ∙ drop-append_seam front (f x ++ back) in
      ap (λ l. take (length (flat_map f (take (i + 1) xs)) - length front) l) cut
      ∙ (ap (λ n. take n (f x ++ back)) long ∙ take-append_seam (f x) back)

-- The lists of a block.
module _ (sets : List (ℕ × SetSpec)) (sorts : List Sort) (slots : List Slot) (starts : List ℕ)
    (is : IsResolved sets sorts slots starts) (place : ℕ) (below : place < length sorts) where
  pub list_of_none : slots ≡ [] → slots_of sets (slice_index_or sorts place Init) ≡ []
  list_of_none none = piece_of_none (slots_of sets) sorts place Init below (ap length (sym is.all ∙ none))

  pub some_starts : 0 < length slots → 0 < length starts
  some_starts more =
      elim (cases_eq (length starts) 0) [
        | inl none ↦ absurd (omega (arith, more, ap length (is.silent none)))
        | inr some ↦ omega (arith, some)
      ]

  module _ (more : 0 < length slots) (start end : ℕ) (starts_at : start ≡ slice_index_or starts place start)
      (ends_at : end ≡ slice_index_or starts (place + 1) end) where
    first : start ≡ start_of sets sorts place
    first =
        let many = is.many (some_starts more) in
        starts_at ∙ (get_or_default starts place start 0 (omega (arith, many, below)) ∙ is.begins (some_starts more) place (omega (arith, below)))

    last : end ≡ start_of sets sorts (place + 1)
    last =
        let many = is.many (some_starts more) in
        ends_at ∙ (get_or_default starts (place + 1) end 0 (omega (arith, many, below)) ∙ is.begins (some_starts more) (place + 1) (omega (arith, below)))

    pub list_len : end ≡ start + length (slots_of sets (slice_index_or sorts place Init))
    list_len =
        let x : Sort = slice_index_or sorts place Init in
        let same : x ≡ slice_index_or sorts place x = get_or_default sorts place Init x below in
        last ∙ (next_start (slots_of sets) sorts place Init below x same
        ∙ ap (λ n. n + length (slots_of sets x)) (sym first))

    pub list_fits : end ≤ length slots
    list_fits =
        let x : Sort = slice_index_or sorts place Init in
        omega (arith, list_len, first, ap length is.all, length-flat_map-take (slots_of sets) sorts place Init below)

    pub list_is : take (end - start) (drop start slots) ≡ slots_of sets (slice_index_or sorts place Init)
    list_is =
        let x : Sort = slice_index_or sorts place Init in
        let same : x ≡ slice_index_or sorts place x = get_or_default sorts place Init x below in
        ap (λ (l : List Slot). take (end - start) (drop start l)) is.all
        ∙ (ap (λ n. take (n - start) (drop start (flat_map (slots_of sets) sorts))) last
        ∙ (ap (λ n. take (start_of sets sorts (place + 1) - n) (drop n (flat_map (slots_of sets) sorts))) first
        ∙ piece (slots_of sets) sorts place Init below x same))
