-- Lines of a script, by their numbers, and searches among them.
use Rattle.std.proofs.Common.{◌≡◌, ◌+◌, ◌<◌, ◌≤◌, ◌∷◌, [], ◌∙◌, ℕ, zero, suc, Bool, true, false, List, Option, Some, None}
use Rattle.std.proofs.Common.{refl, sym, ap, arith, nat_le, cond, length}
use Rattle.std.specs.Prelude.{slice_index_or, slice_get, find}
use Rattle.std.specs.List.{count_by}
use Rattle.std.specs.List.Sorted.{IsNonDecreasingBy}
use Rattle.std.proofs.lemmas.Bool.{le-leb, leb-true}
use Rattle.std.proofs.lemmas.List.Sums.{sum_by-cons}
use Rattle.flat_model.specs.declared.journals.Timed.{Timed}
use Rattle.run_rules.specs.Due.{Line, numbered}
use Rattle.script_order.specs.Judging.{IsLine, ComeBefore}

abbrev pub line : ℕ → Timed → Line
line k t = record { number = k; timed = t }

pub fails : (b : Bool) → (b ≡ true → ⊥) → b ≡ false
fails true off = absurd (off refl)
fails false off = refl

pub later_line : (t : Timed) (ts : List Timed) (i : ℕ) (s : Timed) → IsLine ts i s → IsLine (t ∷ ts) (suc i) s
later_line t ts i s is = record { within = omega (arith, is.within); there = is.there }

pub first_line : (t : Timed) (ts : List Timed) → IsLine (t ∷ ts) 0 t
first_line t ts = record { within = omega arith; there = refl }

-- a line that is there is what is found at its number
pub line_got : (ts : List Timed) (i : ℕ) (t : Timed) → IsLine ts i t → slice_get ts i ≡ Some t
line_got [] i t is = absurd (omega (arith, is.within))
line_got (x ∷ xs) zero t is = ap (λ (y : Timed). Some y) is.there
line_got (x ∷ xs) (suc i) t is = line_got xs i t (record { within = omega (arith, is.within); there = is.there })

-- whatever stands for one that is absent
pub same_line : (ts : List Timed) (j : ℕ) (s t : Timed) → IsLine ts j s → slice_index_or ts j t ≡ s
same_line [] j s t at = absurd (omega (arith, at.within))
same_line (x ∷ xs) zero s t at = at.there
same_line (x ∷ xs) (suc j) s t at = same_line xs j s t (record { within = omega (arith, at.within); there = at.there })

pub line_at : (ts : List Timed) (i : ℕ) (t : Timed) → i < length ts → IsLine ts i (slice_index_or ts i t)
line_at [] i t low = absurd (omega (arith, low))
line_at (x ∷ xs) zero t low = first_line x xs
line_at (x ∷ xs) (suc i) t low = later_line x xs i (slice_index_or xs i t) (line_at xs i t (omega (arith, low)))

-- of two lines the one with the lower number has the lower moment
pub earlier : (ts : List Timed) → IsNonDecreasingBy (λ t. t.when) ts → (j i : ℕ) (s t : Timed) → j ≤ i → IsLine ts j s → IsLine ts i t
    → s.when ≤ t.when
earlier ts rising j i s t le at is =
    let here : (slice_index_or ts j t).when ≡ s.when = ap (λ (x : Timed). x.when) (same_line ts j s t at) in
    omega (arith, rising j i t le is.within, here, ap (λ (x : Timed). x.when) is.there)

-- Searches.

-- no line passes
pub none_passes : (q : Line → Bool) (k : ℕ) (ts : List Timed) → ((i : ℕ) (t : Timed) → IsLine ts i t → q (line (k + i) t) ≡ false)
    → find q (numbered k ts) ≡ None
unfolding numbered
none_passes q k [] off = refl
none_passes q k (t ∷ ts) off =
    let first : q (line k t) ≡ false = ap (λ (n : ℕ). q (line n t)) (omega arith) ∙ off 0 t (first_line t ts) in
    ap (λ (b : Bool). cond b (Some (line k t)) (find q (numbered (k + 1) ts))) first
    ∙ none_passes q (k + 1) ts (λ i s is. ap (λ (n : ℕ). q (line n s)) (omega arith) ∙ off (suc i) s (later_line t ts i s is))

-- the first that passes is found
pub first_passes : (q : Line → Bool) (k c : ℕ) (ts : List Timed) (t : Timed) → IsLine ts c t
    → ((i : ℕ) (s : Timed) → i < c → IsLine ts i s → q (line (k + i) s) ≡ false) → q (line (k + c) t) ≡ true
    → find q (numbered k ts) ≡ Some (line (k + c) t)
unfolding numbered
first_passes q k c [] t is off on = absurd (omega (arith, is.within))
first_passes q k zero (x ∷ xs) t is off on =
    let there : x ≡ t = is.there in
    let same : line k x ≡ line (k + 0) t = ap (line k) there ∙ ap (λ (n : ℕ). line n t) (omega arith) in
    ap (λ (b : Bool). cond b (Some (line k x)) (find q (numbered (k + 1) xs))) (ap q same ∙ on) ∙ ap (λ (l : Line). Some l) same
first_passes q k (suc c) (x ∷ xs) t is off on =
    let first : q (line k x) ≡ false = ap (λ (n : ℕ). q (line n x)) (omega arith) ∙ off 0 x (omega arith) (first_line x xs) in
    let same : k + 1 + c ≡ k + suc c = omega arith in
    ap (λ (b : Bool). cond b (Some (line k x)) (find q (numbered (k + 1) xs))) first
    ∙ first_passes q (k + 1) c xs t (record { within = omega (arith, is.within); there = is.there })
    (λ i s low at. ap (λ (n : ℕ). q (line n s)) (omega arith) ∙ off (suc i) s (omega (arith, low)) (later_line x xs i s at))
    (ap (λ (n : ℕ). q (line n t)) same ∙ on)
    ∙ ap (λ (n : ℕ). Some (line n t)) same

-- where none is found, none passes
off_head : (b : Bool) (l : Line) (later : Option Line) → cond b (Some l) later ≡ None → (b ≡ false) × (later ≡ None)
off_head true l later none = absurd cc
off_head false l later none = (refl, none)

pub none_found : (q : Line → Bool) (k i : ℕ) (ts : List Timed) (t : Timed) → find q (numbered k ts) ≡ None → IsLine ts i t
    → q (line (k + i) t) ≡ false
unfolding numbered
none_found q k i [] t none is = absurd (omega (arith, is.within))
none_found q k zero (x ∷ xs) t none is =
    let there : x ≡ t = is.there in
    ap (λ (n : ℕ). q (line n t)) (omega arith) ∙ ap (λ (y : Timed). q (line k y)) (sym there)
    ∙ (off_head (q (line k x)) (line k x) (find q (numbered (k + 1) xs)) none).0
none_found q k (suc i) (x ∷ xs) t none is =
    ap (λ (n : ℕ). q (line n t)) (omega arith)
    ∙ none_found q (k + 1) i xs t (off_head (q (line k x)) (line k x) (find q (numbered (k + 1) xs)) none).1
    (record { within = omega (arith, is.within); there = is.there })

-- Counts.

abbrev one : Bool → ℕ
one b = cond b 1 0

count_more : (p : Timed → Bool) (x : Timed) (xs : List Timed) → count_by p (x ∷ xs) ≡ one (p x) + count_by p xs
count_more p x xs = sum_by-cons (λ x. cond (p x) 1 0) x xs

none_counts : (k : ℕ) (ts : List Timed) → ((i : ℕ) (t : Timed) → IsLine ts i t → k < t.when)
    → count_by (λ t. nat_le t.when k) ts ≡ 0
none_counts k [] late = refl
none_counts k (x ∷ xs) late =
    let off : nat_le x.when k ≡ false = fails (nat_le x.when k) (λ is. omega (arith, leb-true x.when k is, late 0 x (first_line x xs))) in
    let rest = none_counts k xs (λ i t is. late (suc i) t (later_line x xs i t is)) in
    omega (arith, count_more (λ t. nat_le t.when k) x xs, ap one off, rest)

-- as many lines have come as come before the first that hasn't
pub counts_come : (k c : ℕ) (ts : List Timed) → ComeBefore ts k c → count_by (λ t. nat_le t.when k) ts ≡ c
counts_come k c [] b = omega (arith, b.within)
counts_come k zero (x ∷ xs) b = none_counts k (x ∷ xs) (λ i t is. b.later i t (omega arith) is)
counts_come k (suc c) (x ∷ xs) b =
    let on : nat_le x.when k ≡ true = le-leb x.when k (b.come 0 x (omega arith) (first_line x xs)) in
    let rest = counts_come k c xs (record {
      within = omega (arith, b.within);
      come = λ i t low is. b.come (suc i) t (omega (arith, low)) (later_line x xs i t is);
      later = λ i t far is. b.later (suc i) t (omega (arith, far)) (later_line x xs i t is);
    }) in
    omega (arith, count_more (λ t. nat_le t.when k) x xs, ap one on, rest)

-- lines up to one that have come are counted
pub come_count : (k i : ℕ) (ts : List Timed) (t : Timed) → IsLine ts i t
    → ((j : ℕ) (s : Timed) → j ≤ i → IsLine ts j s → s.when ≤ k) → i + 1 ≤ count_by (λ t. nat_le t.when k) ts
come_count k i [] t is come = absurd (omega (arith, is.within))
come_count k zero (x ∷ xs) t is come =
    let on : nat_le x.when k ≡ true = le-leb x.when k (come 0 x (omega arith) (first_line x xs)) in
    omega (arith, count_more (λ t. nat_le t.when k) x xs, ap one on)
come_count k (suc i) (x ∷ xs) t is come =
    let on : nat_le x.when k ≡ true = le-leb x.when k (come 0 x (omega arith) (first_line x xs)) in
    let rest = come_count k i xs t (record { within = omega (arith, is.within); there = is.there })
    (λ j s le at. come (suc j) s (omega (arith, le)) (later_line x xs j s at)) in
    omega (arith, count_more (λ t. nat_le t.when k) x xs, ap one on, rest)
