-- The filters of a hart's attached sets in their order, where one comes or goes.
use Rattle.std.proofs.Common.{◌≡◌, ◌<◌, ◌≤◌, ◌+◌, ◌∙◌, ℕ, zero, suc, true, false, List, [], ◌∷◌, ◌++◌, length, take, drop}
use Rattle.std.proofs.Common.{refl, sym, ap, ap₂, arith, All, AllPairs, inl, inr, filter, insert, nat_lt, slice_index_or}
use Rattle.std.proofs.lemmas.List.{get_or_default}
use Rattle.std.proofs.lemmas.List.Edits.{length-insert}
use Rattle.std.proofs.lemmas.List.Elements.{All-append, All-cons, All-tail, All-filter, filter_passes}
use Rattle.std.proofs.lemmas.List.Kept.{AllPairs-cons, AllPairs-filter}
use Rattle.std.proofs.lemmas.Bool.{cases_eq}
use Rattle.std.proofs.lemmas.Bool.Decides.{nat_tests}
use Rattle.flat_model.specs.declared.plugins.SetSpec.{SetSpec}
use Rattle.kept_order.specs.Arriving.{with_spec}
use Rattle.host_state.specs.Filters.{HasNoSpec, AreSpecsInOrder, AreSpecsNumbered}

less : (a b : ℕ) → a < b → nat_lt a b ≡ true
less a b is = grind (arith, nat_tests)

not_less : (a b : ℕ) → b ≤ a → nat_lt a b ≡ false
not_less a b is = grind (arith, nat_tests)

is_less : (a b : ℕ) → nat_lt a b ≡ true → a < b
is_less a b is = grind (arith, nat_tests)

-- Where one comes.

-- a place parts the numbers below from those above
pub record IsParted (p i : ℕ) (specs : List (ℕ × SetSpec)) : Type 0 where
  pub below : take i specs ≡ filter (λ s. nat_lt s.0 p) specs
  pub above : drop i specs ≡ filter (λ s. nat_lt p s.0) specs

parted : (p i : ℕ) (specs : List (ℕ × SetSpec)) → ((k : ℕ) (d : ℕ × SetSpec) → k < i → k < length specs → (slice_index_or specs k d).0 < p)
    → ((k : ℕ) (d : ℕ × SetSpec) → i ≤ k → k < length specs → p < (slice_index_or specs k d).0) → IsParted p i specs
parted p zero [] low high = record { below = refl; above = refl }
parted p (suc i) [] low high = record { below = refl; above = refl }
parted p zero (s ∷ specs) low high =
    let more = high zero s (omega arith) (omega arith) in
    let rest = parted p zero specs (λ k d before there. absurd (omega (arith, before)))
    (λ k d behind there. high (suc k) d (omega arith) (omega (arith, there))) in
    record {
      below = rw (not_less s.0 p (omega (arith, more))) rest.below;
      above = rw (less p s.0 more) (ap (λ l. s ∷ l) rest.above);
    }
parted p (suc i) (s ∷ specs) low high =
    let fewer = low zero s (omega arith) (omega arith) in
    let rest = parted p i specs (λ k d before there. low (suc k) d (omega (arith, before)) (omega (arith, there)))
    (λ k d behind there. high (suc k) d (omega (arith, behind)) (omega (arith, there))) in
    record {
      below = rw (less s.0 p fewer) (ap (λ l. s ∷ l) rest.below);
      above = rw (not_less p s.0 (omega (arith, fewer))) rest.above;
    }

-- the first number that isn't below
pub parted_at : (p i : ℕ) (specs : List (ℕ × SetSpec)) (s : ℕ × SetSpec) → AreSpecsInOrder specs → HasNoSpec p specs → i < length specs
    → s ≡ slice_index_or specs i s → p ≤ s.0 → ((k : ℕ) (d : ℕ × SetSpec) → k < i → (slice_index_or specs k d).0 < p) → IsParted p i specs
parted_at p i specs s order absent within is least low =
    parted p i specs (λ k d before there. low k d before)
    (λ k d behind there.
    let here : (slice_index_or specs i d).0 ≡ s.0 = ap (λ (x : ℕ × SetSpec). x.0) (get_or_default specs i d s within ∙ sym is) in
    let other = absent k d there in
    elim (cases_eq k i) [
      | inl same ↦ let equal : (slice_index_or specs k d).0 ≡ (slice_index_or specs i d).0 = ap (λ j. (slice_index_or specs j d).0) same in
          omega (arith, equal, here, other, least)
      | inr apart ↦ omega (arith, order i k d (omega (arith, apart, behind)) there, here, least)
    ])

-- every number is below
pub parted_behind : (p : ℕ) (specs : List (ℕ × SetSpec)) → ((k : ℕ) (d : ℕ × SetSpec) → k < length specs → (slice_index_or specs k d).0 < p)
    → IsParted p (length specs) specs
parted_behind p specs low =
    parted p (length specs) specs (λ k d before there. low k d there) (λ k d behind there. absurd (omega (arith, behind, there)))

pub inserted : (new : ℕ × SetSpec) (i : ℕ) (specs : List (ℕ × SetSpec)) → take i specs ≡ filter (λ s. nat_lt s.0 new.0) specs
    → drop i specs ≡ filter (λ s. nat_lt new.0 s.0) specs → insert specs i new ≡ with_spec new specs
inserted new i specs below above = ap₂ (λ l r. l ++ new ∷ r) below above

AllPairs-append : {X : Type 0} (R : X → X → Type 0) (xs ys : List X) → AllPairs R xs → AllPairs R ys → All (λ x. All (R x) ys) xs
    → AllPairs R (xs ++ ys)
AllPairs-append R [] ys first last each = last
AllPairs-append R (x ∷ xs) ys first last each =
    AllPairs-cons R x (xs ++ ys)
    (All-append (R x) xs ys (λ k d below. first zero (suc k) d (omega arith) (omega (arith, below))) (each zero x (omega arith)))
    (AllPairs-append R xs ys (λ i j d less' below. first (suc i) (suc j) d (omega (arith, less')) (omega (arith, below))) last
    (All-tail (λ y. All (R y) ys) x xs each))

pub ordered_with : (new : ℕ × SetSpec) (specs : List (ℕ × SetSpec)) → AreSpecsInOrder specs → AreSpecsInOrder (with_spec new specs)
ordered_with new specs order =
    let R = λ (a b : ℕ × SetSpec). a.0 < b.0 in
    let lows = filter (λ (s : ℕ × SetSpec). nat_lt s.0 new.0) specs in
    let highs = filter (λ (s : ℕ × SetSpec). nat_lt new.0 s.0) specs in
    let low : All (λ s. nat_lt s.0 new.0 ≡ true) lows = filter_passes (λ (s : ℕ × SetSpec). nat_lt s.0 new.0) specs in
    let high : All (λ s. nat_lt new.0 s.0 ≡ true) highs = filter_passes (λ (s : ℕ × SetSpec). nat_lt new.0 s.0) specs in
    AllPairs-append R lows (new ∷ highs) (AllPairs-filter R (λ (s : ℕ × SetSpec). nat_lt s.0 new.0) specs order)
    (AllPairs-cons R new highs (λ k d below. is_less new.0 (slice_index_or highs k d).0 (high k d below))
    (AllPairs-filter R (λ (s : ℕ × SetSpec). nat_lt new.0 s.0) specs order))
    (λ k d below.
    let fewer = is_less (slice_index_or lows k d).0 new.0 (low k d below) in
    All-cons (R (slice_index_or lows k d)) new highs fewer
    (λ j e there. omega (arith, fewer, is_less new.0 (slice_index_or highs j e).0 (high j e there))))

pub numbered_with : (new : ℕ × SetSpec) (specs : List (ℕ × SetSpec)) → 1 ≤ new.0 → new.0 ≤ 8 → AreSpecsNumbered specs
    → AreSpecsNumbered (with_spec new specs)
numbered_with new specs one eight numbered =
    let P = λ (s : ℕ × SetSpec). (1 ≤ s.0) × (s.0 ≤ 8) in
    let lows = filter (λ (s : ℕ × SetSpec). nat_lt s.0 new.0) specs in
    let highs = filter (λ (s : ℕ × SetSpec). nat_lt new.0 s.0) specs in
    All-append P lows (new ∷ highs) (All-filter (λ (s : ℕ × SetSpec). nat_lt s.0 new.0) P specs numbered)
    (All-cons P new highs (one, eight) (All-filter (λ (s : ℕ × SetSpec). nat_lt new.0 s.0) P specs numbered))

-- There are at most as many as numbers.

counts_up : (specs : List (ℕ × SetSpec)) → AreSpecsInOrder specs → AreSpecsNumbered specs → (d : ℕ × SetSpec) (k : ℕ) → k < length specs
    → k + 1 ≤ (slice_index_or specs k d).0
counts_up specs order numbered d zero below = (numbered zero d below).0
counts_up specs order numbered d (suc k) below =
    let before = counts_up specs order numbered d k (omega (arith, below)) in
    let more = order k (suc k) d (omega arith) below in
    omega (arith, before, more)

at_most_eight : (specs : List (ℕ × SetSpec)) → AreSpecsInOrder specs → AreSpecsNumbered specs → length specs ≤ 8
at_most_eight [] order numbered = omega arith
at_most_eight (s ∷ specs) order numbered =
    let there : length specs < length (s ∷ specs) = omega arith in
    let high = counts_up (s ∷ specs) order numbered s (length specs) there in
    let most = (numbered (length specs) s there).1 in
    omega (arith, high, most)

pub has_room : (new : ℕ × SetSpec) (i : ℕ) (specs : List (ℕ × SetSpec)) → i ≤ length specs → insert specs i new ≡ with_spec new specs
    → 1 ≤ new.0 → new.0 ≤ 8 → AreSpecsInOrder specs → AreSpecsNumbered specs → length specs < 8
has_room new i specs within is one eight order numbered =
    let most = at_most_eight (with_spec new specs) (ordered_with new specs order) (numbered_with new specs one eight numbered) in
    omega (arith, most, ap length is, length-insert specs i new within)
