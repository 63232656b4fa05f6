-- Attached sets in their order, where one comes or goes.
use Rattle.std.proofs.Common.{◌≡◌, ◌<◌, ◌≤◌, ◌+◌, ◌-◌, ◌∙◌, ℕ, zero, suc, Bool, true, false, List, [], ◌∷◌, ◌++◌, length, take, drop}
use Rattle.std.proofs.Common.{refl, sym, ap, subst, arith, All, Some, None, inl, inr, not, length-drop}
use Rattle.std.specs.Prelude.{slice_index_or, insert, remove, filter, nat_lt, ◌==◌}
use Rattle.std.proofs.lemmas.List.Quantifiers.{all_pairs_remove}
use Rattle.std.proofs.lemmas.List.{get_or_default, get_or-drop, get_or-take, take-append-drop, append-nil, length-take}
use Rattle.std.proofs.lemmas.List.Edits.{get_or-insert_at, get_or-insert_below, get_or-insert_above, length-insert}
use Rattle.std.proofs.lemmas.List.Elements.{filter-append, All-append, All-take, All-drop}
use Rattle.std.proofs.lemmas.Bool.{cases_eq, cases_order, eq-eqb}
use Rattle.std.proofs.lemmas.Bool.Decides.{nat_tests, eqb_tells}
use Rattle.watcher_api.specs.Attachment.{Attachment, set_of, without, with_set}
use Rattle.watcher_api.specs.Acting.{AreInOrder, AreNumbered, IsAbsent, IsPlaceOf}

-- Tests.

less : (a b : ℕ) → a < b → nat_lt a b ≡ true
less a b is = grind (arith, nat_tests)

not_less : (a b : ℕ) → b ≤ a → nat_lt a b ≡ false
not_less a b is = grind (arith, nat_tests)

differ : (a b : ℕ) → (a ≡ b → ⊥) → (a == b) ≡ false
differ a b other = elim (eqb_tells a b) [ inl same ↦ absurd (other same.1) | inr apart ↦ apart.0 ]

-- Filters.

All-cons' : {X : Type 0} (P : X → Type 0) (x : X) (xs : List X) → P x → All P xs → All P (x ∷ xs)
All-cons' P x xs first rest zero d below = first
All-cons' P x xs first rest (suc k) d below = rest k d (omega (arith, below))

All-tail' : {X : Type 0} (P : X → Type 0) (x : X) (xs : List X) → All P (x ∷ xs) → All P xs
All-tail' P x xs all k d below = all (suc k) d (omega (arith, below))

filter_all : {X : Type 0} (p : X → Bool) (xs : List X) → All (λ x. p x ≡ true) xs → filter p xs ≡ xs
filter_all p [] all = refl
filter_all p (x ∷ xs) all = rw (all zero x (omega arith)) (ap (λ l. x ∷ l) (filter_all p xs (All-tail' (λ y. p y ≡ true) x xs all)))

filter_none : {X : Type 0} (p : X → Bool) (xs : List X) → All (λ x. p x ≡ false) xs → filter p xs ≡ []
filter_none p [] all = refl
filter_none p (x ∷ xs) all = rw (all zero x (omega arith)) (filter_none p xs (All-tail' (λ y. p y ≡ false) x xs all))

-- a list before and a list behind
filter_first : {X : Type 0} (p : X → Bool) (xs ys : List X) → All (λ x. p x ≡ true) xs → All (λ x. p x ≡ false) ys → filter p (xs ++ ys) ≡ xs
filter_first p xs ys all none = filter-append p xs ys ∙ (rw (filter_all p xs all, filter_none p ys none) (append-nil xs))

filter_last : {X : Type 0} (p : X → Bool) (xs ys : List X) → All (λ x. p x ≡ false) xs → All (λ x. p x ≡ true) ys → filter p (xs ++ ys) ≡ ys
filter_last p xs ys none all = filter-append p xs ys ∙ rw (filter_none p xs none, filter_all p ys all) refl

-- A set that comes.

pub place_above : (sets : List Attachment) (i p : ℕ) (x : Attachment) → AreInOrder sets → i < length sets
    → x ≡ slice_index_or sets i x → p ≤ x.plugin → All (λ a. p ≤ a.plugin) (drop i sets)
place_above sets i p x order within is least k d below =
    let there : i + k < length sets = omega (arith, below, length-drop i sets) in
    rw (get_or-drop i sets k d)
    (elim (cases_eq k 0) [
      | inl same ↦ let equal : slice_index_or sets (i + k) d ≡ x =
          ap (λ j. slice_index_or sets j d) (let e : i + k ≡ i = omega (arith, same) in e) ∙ (get_or_default sets i d x within ∙ sym is) in
          subst (λ (a : Attachment). p ≤ a.plugin) (sym equal) least
      | inr other ↦ let more = order i (i + k) d (omega (arith, other)) there in
          let at_i : (slice_index_or sets i d).plugin ≡ x.plugin = ap (λ (a : Attachment). a.plugin) (get_or_default sets i d x within ∙ sym is) in
          omega (arith, at_i, more, least)
    ])

module _ (sets : List Attachment) (i : ℕ) (new : Attachment) (within : i ≤ length sets)
    (below : All (λ (a : Attachment). a.plugin < new.plugin) (take i sets))
    (above : All (λ (a : Attachment). new.plugin ≤ a.plugin) (drop i sets)) (absent : IsAbsent new.plugin sets) where
  strictly : All (λ (a : Attachment). new.plugin < a.plugin) (drop i sets)
  strictly k d inside =
      let there : i + k < length sets = omega (arith, inside, length-drop i sets) in
      let more : new.plugin ≤ (slice_index_or sets (i + k) d).plugin =
      subst (λ (a : Attachment). new.plugin ≤ a.plugin) (get_or-drop i sets k d) (above k d inside) in
      let other = absent (i + k) d there in
      rw (get_or-drop i sets k d) (omega (arith, more, other))

  pub inserted : insert sets i new ≡ with_set new sets
  inserted =
      let whole = take-append-drop i sets in
      let first : filter (λ (b : Attachment). nat_lt b.plugin new.plugin) sets ≡ take i sets =
      ap (filter (λ (b : Attachment). nat_lt b.plugin new.plugin)) (sym whole)
      ∙ filter_first (λ (b : Attachment). nat_lt b.plugin new.plugin) (take i sets) (drop i sets)
      (λ k d inside. less (slice_index_or (take i sets) k d).plugin new.plugin (below k d inside))
      (λ k d inside. not_less (slice_index_or (drop i sets) k d).plugin new.plugin (above k d inside)) in
      let last : filter (λ (b : Attachment). nat_lt new.plugin b.plugin) sets ≡ drop i sets =
      ap (filter (λ (b : Attachment). nat_lt new.plugin b.plugin)) (sym whole)
      ∙ filter_last (λ (b : Attachment). nat_lt new.plugin b.plugin) (take i sets) (drop i sets)
      (λ k d inside. not_less new.plugin (slice_index_or (take i sets) k d).plugin (omega (arith, below k d inside)))
      (λ k d inside. less new.plugin (slice_index_or (drop i sets) k d).plugin (strictly k d inside)) in
      rw (first, last) refl

  below_at : (k : ℕ) → k < i → (slice_index_or sets k new).plugin < new.plugin
  below_at k less' =
      let inside : k < length (take i sets) = omega (arith, less', within, length-take i sets) in
      subst (λ (a : Attachment). a.plugin < new.plugin) (get_or-take i sets k new less') (below k new inside)

  above_at : (k : ℕ) → i ≤ k → k < length sets → new.plugin < (slice_index_or sets k new).plugin
  above_at k more there =
      let inside : k - i < length (drop i sets) = omega (arith, more, there, length-drop i sets) in
      let same : i + (k - i) ≡ k = omega (arith, more) in
      subst (λ j. new.plugin < (slice_index_or sets j new).plugin) same
      (subst (λ (a : Attachment). new.plugin < a.plugin) (get_or-drop i sets (k - i) new) (strictly (k - i) new inside))

  -- the numbers of the longer list, at the place of the new set and on its two sides
  at_below : (k : ℕ) → k < i → (slice_index_or (insert sets i new) k new).plugin ≡ (slice_index_or sets k new).plugin
  at_below k less' = ap (λ (a : Attachment). a.plugin) (get_or-insert_below sets i new new k less' within)

  at_place : (k : ℕ) → k ≡ i → (slice_index_or (insert sets i new) k new).plugin ≡ new.plugin
  at_place k same = rw same (ap (λ (a : Attachment). a.plugin) (get_or-insert_at sets i new new within))

  at_above : (k : ℕ) → i < k → (slice_index_or (insert sets i new) k new).plugin ≡ (slice_index_or sets (k - 1) new).plugin
  at_above k more =
      let same : (k - 1) + 1 ≡ k = omega (arith, more) in
      subst (λ j. (slice_index_or (insert sets i new) j new).plugin ≡ (slice_index_or sets (k - 1) new).plugin) same
      (ap (λ (a : Attachment). a.plugin) (get_or-insert_above sets i new new (k - 1) (omega (arith, more)) within))

  each_pair : AreInOrder sets → (a b : ℕ) → a < b → b < length sets + 1
      → (slice_index_or (insert sets i new) a new).plugin < (slice_index_or (insert sets i new) b new).plugin
  each_pair order a b first there =
      elim (cases_order b i) [
        | inl same ↦ let a_less : a < i = omega (arith, first, same) in
            omega (arith, at_place b same, at_below a a_less, below_at a a_less)
        | inr other ↦ elim other [
          | inl b_less ↦ let a_less : a < i = omega (arith, first, b_less) in
              omega (arith, at_below b b_less, at_below a a_less, order a b new first (omega (arith, b_less, within)))
          | inr b_more ↦ elim (cases_order a i) [
            | inl same ↦ omega (arith, at_place a same, at_above b b_more, above_at (b - 1) (omega (arith, b_more)) (omega (arith, there, b_more)))
            | inr other' ↦ elim other' [
              | inl a_less ↦ omega (arith, at_below a a_less, at_above b b_more, order a (b - 1) new (omega (arith, a_less, b_more)) (omega (arith, there, b_more)))
              | inr a_more ↦ omega (arith, at_above a a_more, at_above b b_more, order (a - 1) (b - 1) new (omega (arith, first, a_more, b_more)) (omega (arith, there, b_more)))
            ]
          ]
        ]
      ]

  pub ordered_insert : AreInOrder sets → AreInOrder (insert sets i new)
  ordered_insert order a b d first there =
      let long = length-insert sets i new within in
      let at_a = get_or_default (insert sets i new) a d new (omega (arith, first, there)) in
      let at_b = get_or_default (insert sets i new) b d new there in
      rw (at_a, at_b) (each_pair order a b first (omega (arith, there, long)))

  pub numbered_insert : 1 ≤ new.plugin → new.plugin ≤ 8 → AreNumbered sets → AreNumbered (insert sets i new)
  numbered_insert one eight numbered =
      All-append (λ (a : Attachment). (1 ≤ a.plugin) × (a.plugin ≤ 8)) (take i sets) (new ∷ drop i sets)
      (All-take (λ (a : Attachment). (1 ≤ a.plugin) × (a.plugin ≤ 8)) i sets numbered)
      (All-cons' (λ (a : Attachment). (1 ≤ a.plugin) × (a.plugin ≤ 8)) new (drop i sets) (one, eight)
      (All-drop (λ (a : Attachment). (1 ≤ a.plugin) × (a.plugin ≤ 8)) i sets numbered))

-- There are at most as many sets as numbers.

counts_up : (sets : List Attachment) → AreInOrder sets → AreNumbered sets → (d : Attachment) (k : ℕ) → k < length sets
    → k + 1 ≤ (slice_index_or sets k d).plugin
counts_up sets order numbered d zero below = (numbered zero d below).0
counts_up sets order numbered d (suc k) below =
    let before = counts_up sets order numbered d k (omega (arith, below)) in
    let more = order k (suc k) d (omega arith) below in
    omega (arith, before, more)

pub at_most_eight : (sets : List Attachment) → AreInOrder sets → AreNumbered sets → length sets ≤ 8
at_most_eight [] order numbered = omega arith
at_most_eight (a ∷ sets) order numbered =
    let last = length sets in
    let there : last < length (a ∷ sets) = omega arith in
    let high = counts_up (a ∷ sets) order numbered a last there in
    let most = (numbered last a there).1 in
    omega (arith, high, most)

pub has_room : (sets : List Attachment) (i : ℕ) (new : Attachment) → i ≤ length sets → AreInOrder (insert sets i new)
    → AreNumbered (insert sets i new) → length sets < 8
has_room sets i new within order numbered =
    omega (arith, at_most_eight (insert sets i new) order numbered, length-insert sets i new within)

-- A set that goes.

pub ordered_remove : (sets : List Attachment) (i : ℕ) → i < length sets → AreInOrder sets → AreInOrder (remove sets i)
ordered_remove sets i within order = all_pairs_remove (λ (a b : Attachment). a.plugin < b.plugin) sets i within order

pub numbered_remove : (sets : List Attachment) (i : ℕ) → AreNumbered sets → AreNumbered (remove sets i)
numbered_remove sets i numbered =
    All-append (λ (a : Attachment). (1 ≤ a.plugin) × (a.plugin ≤ 8)) (take i sets) (drop (suc i) sets)
    (All-take (λ (a : Attachment). (1 ≤ a.plugin) × (a.plugin ≤ 8)) i sets numbered)
    (All-drop (λ (a : Attachment). (1 ≤ a.plugin) × (a.plugin ≤ 8)) (suc i) sets numbered)

-- where no set is of the plug-in
pub absent_set : (p : ℕ) (sets : List Attachment) → IsAbsent p sets → set_of p sets ≡ None
absent_set p [] absent = refl
absent_set p (a ∷ sets) absent =
    rw (differ a.plugin p (absent zero a (omega arith)))
    (absent_set p sets (All-tail' (λ (b : Attachment). b.plugin ≡ p → ⊥) a sets absent))

pub absent_left : (p : ℕ) (sets : List Attachment) → IsAbsent p sets → without p sets ≡ sets
absent_left p sets absent =
    filter_all (λ (a : Attachment). not (a.plugin == p)) sets
    (λ k d below. ap not (differ (slice_index_or sets k d).plugin p (absent k d below)))

-- the first set of the plug-in, where none before it is
found_at : (p : ℕ) (sets : List Attachment) (i : ℕ) (d : Attachment) → i < length sets → (slice_index_or sets i d).plugin ≡ p
    → ((k : ℕ) → k < i → (slice_index_or sets k d).plugin ≡ p → ⊥) → set_of p sets ≡ Some (slice_index_or sets i d)
found_at p [] i d below is others = absurd (omega (arith, below))
found_at p (a ∷ sets) zero d below is others = rw (eq-eqb a.plugin p is) refl
found_at p (a ∷ sets) (suc i) d below is others =
    rw (differ a.plugin p (others zero (omega arith)))
    (found_at p sets i d (omega (arith, below)) is (λ k less'. others (suc k) (omega (arith, less'))))

left_at : (p : ℕ) (sets : List Attachment) (i : ℕ) (d : Attachment) → i < length sets → (slice_index_or sets i d).plugin ≡ p
    → ((k : ℕ) → k < length sets → (k ≡ i → ⊥) → (slice_index_or sets k d).plugin ≡ p → ⊥) → without p sets ≡ remove sets i
left_at p [] i d below is others = absurd (omega (arith, below))
left_at p (a ∷ sets) zero d below is others =
    rw (eq-eqb a.plugin p is)
    (absent_left p sets (λ k e inside same. others (suc k) (omega (arith, inside)) (omega arith)
    (ap (λ (b : Attachment). b.plugin) (get_or_default sets k d e inside) ∙ same)))
left_at p (a ∷ sets) (suc i) d below is others =
    rw (differ a.plugin p (others zero (omega arith) (omega arith)))
    (ap (λ l. a ∷ l) (left_at p sets i d (omega (arith, below)) is
    (λ k inside apart. others (suc k) (omega (arith, inside)) (omega (arith, apart)))))

-- the set of the plug-in stands at place i
module _ (p : ℕ) (sets : List Attachment) (i : ℕ) (x : Attachment) (place : IsPlaceOf p sets i) (order : AreInOrder sets) where
  alone : (k : ℕ) → k < length sets → (k ≡ i → ⊥) → (slice_index_or sets k x).plugin ≡ p → ⊥
  alone k inside other same =
      let there = place.there x in
      elim (cases_order k i) [
        | inl equal ↦ other equal
        | inr apart ↦ elim apart [
          | inl before ↦ let less' = order k i x before place.within in omega (arith, less', there, same)
          | inr behind ↦ let more = order i k x behind inside in omega (arith, more, there, same)
        ]
      ]

  pub found : x ≡ slice_index_or sets i x → set_of p sets ≡ Some x
  found is = found_at p sets i x place.within (place.there x)
      (λ k before. alone k (omega (arith, before, place.within)) (omega (arith, before))) ∙ ap Some (sym is)

  pub left : without p sets ≡ remove sets i
  left = left_at p sets i x place.within (place.there x) alone
