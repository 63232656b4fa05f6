-- Tables by plug-in and hart: what becomes of them where one row or one place is something else.
use Rattle.std.proofs.Common.{◌≡◌, ◌≢◌, ◌==◌, ◌&&◌, ◌+◌, ◌-◌, ◌<◌, ◌≤◌, ◌∷◌, [], ◌++◌, ◌∙◌, ℕ, zero, suc, Bool, true, false, not, List}
use Rattle.std.proofs.Common.{Option, Some, None, refl, sym, ap, arith, inl, inr, length, map}
use Rattle.std.specs.Prelude.{if◌then◌else◌, filter, replicate, slice_index_or, slice_set}
use Rattle.std.specs.List.{range_with_len, filter_map, cons_option}
use Rattle.std.proofs.lemmas.Bool.{cases_Bool, and_left, and_right}
use Rattle.std.proofs.lemmas.Bool.Decides.{nat_tests}
use Rattle.std.proofs.lemmas.List.{length-append}
use Rattle.run_order.specs.Laws.{with_place}
use Rattle.run_order.proofs.Installing.{map_one}
use Rattle.run_order.proofs.Shelves.{map_same}
use Rattle.run_order.proofs.Taking.{map_at}

-- what a function gives for n plug-ins and m harts
abbrev pub table : {A : Type 0} → (ℕ → ℕ → A) → ℕ → ℕ → List (List A)
table f m n = map (λ p. map (f p) (range_with_len 0 m)) (range_with_len 1 n)

pub table_same : {A : Type 0} (f g : ℕ → ℕ → A) (m n : ℕ) → ((p j : ℕ) → 1 ≤ p → p < 1 + n → j < m → g p j ≡ f p j)
    → table g m n ≡ table f m n
table_same f g m n same =
    map_same (λ p. map (g p) (range_with_len 0 m)) (λ p. map (f p) (range_with_len 0 m)) 1 n
    (λ p one most. map_same (g p) (f p) 0 m (λ j least low. same p j one most (omega (arith, low))))

-- a list of what numbers give, where one number of the range gives something else
map_set_within : {A : Type 0} (f g : ℕ → A) (a n i : ℕ) → i < n
    → ((k : ℕ) → a ≤ k → k < a + n → k ≢ (a + i) → g k ≡ f k)
    → map g (range_with_len a n) ≡ slice_set (map f (range_with_len a n)) i (g (a + i))
map_set_within f g a zero i within same = absurd (omega (arith, within))
map_set_within f g a (suc n) zero within same =
    ap (λ x. x ∷ map g (range_with_len (a + 1) n)) (ap g {x = a} {y = a + 0} (omega arith))
    ∙ ap (λ xs. g (a + 0) ∷ xs)
    (map_same g f (a + 1) n (λ k low high. same k (omega (arith, low)) (omega (arith, high)) (λ e. absurd (omega (arith, low, e)))))
map_set_within f g a (suc n) (suc i) within same =
    ap (λ x. x ∷ map g (range_with_len (a + 1) n)) (same a (omega arith) (omega arith) (λ e. absurd (omega (arith, e))))
    ∙ ap (λ xs. f a ∷ xs) (map_set_within f g (a + 1) n i (omega (arith, within))
    (λ k low high off. same k (omega (arith, low)) (omega (arith, high)) (λ e. off (omega (arith, e))))
    ∙ ap (λ (k : ℕ). slice_set (map f (range_with_len (a + 1) n)) i (g k)) (omega arith))

-- the row of plug-in q is something else
row_set : {A : Type 0} (f g : ℕ → ℕ → A) (m n q : ℕ) (row : List A) → 1 ≤ q → q < 1 + n
    → ((p j : ℕ) → 1 ≤ p → p < 1 + n → j < m → (q == p) ≡ false → g p j ≡ f p j)
    → map (g q) (range_with_len 0 m) ≡ row
    → table g m n ≡ slice_set (table f m n) (q - 1) row
row_set f g m n q row one most others own =
    map_set_within (λ p. map (f p) (range_with_len 0 m)) (λ p. map (g p) (range_with_len 0 m)) 1 n (q - 1) (omega (arith, one, most))
    (λ p least high off. map_same (g p) (f p) 0 m
    (λ j low few. others p j least high (omega (arith, few)) (grind (arith, nat_tests, off, one))))
    ∙ ap (λ row. slice_set (table f m n) (q - 1) row)
    (ap (λ (k : ℕ). map (g k) (range_with_len 0 m)) {x = 1 + (q - 1)} {y = q} (omega (arith, one)) ∙ own)

-- it has one thing in each place
pub table_row : {A : Type 0} (f g : ℕ → ℕ → A) (m n q : ℕ) (x : A) → 1 ≤ q → q < 1 + n
    → ((p j : ℕ) → 1 ≤ p → p < 1 + n → j < m → (q == p) ≡ false → g p j ≡ f p j)
    → ((j : ℕ) → j < m → g q j ≡ x) → table g m n ≡ slice_set (table f m n) (q - 1) (replicate m x)
table_row f g m n q x one most others own =
    row_set f g m n q (replicate m x) one most others (map_one x (g q) 0 m (λ j least low. own j (omega (arith, low))))

-- it has one thing in the place of hart h
pub table_place : {A : Type 0} (f g : ℕ → ℕ → A) (m n q h : ℕ) (x : A) → 1 ≤ q → q < 1 + n → h < m
    → ((p j : ℕ) → 1 ≤ p → p < 1 + n → j < m → ((h == j) && (q == p)) ≡ false → g p j ≡ f p j)
    → g q h ≡ x → table g m n ≡ with_place (table f m n) (q - 1) h x
table_place f g m n q h x one most low others own =
    let old : slice_index_or (table f m n) (q - 1) [] ≡ map (f q) (range_with_len 0 m) =
    map_at (λ p. map (f p) (range_with_len 0 m)) 1 n (q - 1) [] (omega (arith, one, most))
    ∙ ap (λ (k : ℕ). map (f k) (range_with_len 0 m)) {x = 1 + (q - 1)} {y = q} (omega (arith, one)) in
    row_set f g m n q (slice_set (slice_index_or (table f m n) (q - 1) []) h x) one most
    (λ p j least high few off. others p j least high few (and_right (h == j) (q == p) off))
    (map_set_within (f q) (g q) 0 m h low
    (λ j least few off. others q j one most (omega (arith, few)) (and_left (h == j) (q == q) (grind (arith, nat_tests, off))))
    ∙ ap (λ y. slice_set (map (f q) (range_with_len 0 m)) h y) (ap (g q) {x = 0 + h} {y = h} (omega arith) ∙ own)
    ∙ ap (λ ys. slice_set ys h x) (sym old))

-- the last of a list that is one longer
at_end : {A : Type 0} (xs : List A) (x d : A) → slice_index_or (xs ++ x ∷ []) (length xs) d ≡ x
at_end [] x d = refl
at_end (y ∷ xs) x d = at_end xs x d

pub last_more : {A : Type 0} (xs : List A) (x d : A) → slice_index_or (xs ++ x ∷ []) (length (xs ++ x ∷ []) - 1) d ≡ x
last_more xs x d =
    ap (λ (i : ℕ). slice_index_or (xs ++ x ∷ []) i d) {x = length (xs ++ x ∷ []) - 1} {y = length xs}
    (omega (arith, length-append xs (x ∷ [])))
    ∙ at_end xs x d

-- What is gathered of numbers, where one number gives nothing any more.

drops_one : {A : Type 0} (test : A → Bool) (x : A) (b : Bool) (xs : List A) → test x ≡ false
    → filter test (cons_option (if b then Some x else None) xs) ≡ filter test xs
drops_one test x true xs off = rw off refl
drops_one test x false xs off = refl

keeps_one : {A : Type 0} (test : A → Bool) (x : A) (b : Bool) (xs : List A) → test x ≡ true
    → filter test (cons_option (if b then Some x else None) xs) ≡ cons_option (if b then Some x else None) (filter test xs)
keeps_one test x true xs is = rw is refl
keeps_one test x false xs is = refl

pub gives_others : {A : Type 0} (there : ℕ → Bool) (x : ℕ → A) (g : ℕ → Option A) (test : A → Bool) (q : ℕ) (ks : List ℕ)
    → ((k : ℕ) → test (x k) ≡ not (k == q)) → ((k : ℕ) → (k == q) ≡ true → g k ≡ None)
    → ((k : ℕ) → (k == q) ≡ false → g k ≡ (if there k then Some (x k) else None))
    → filter_map g ks ≡ filter test (filter_map (λ k. if there k then Some (x k) else None) ks)
gives_others there x g test q [] tests own others = refl
gives_others there x g test q (k ∷ ks) tests own others =
    let rest = gives_others there x g test q ks tests own others in
    let old = filter_map (λ k. if there k then Some (x k) else None) ks in
    elim (cases_Bool (k == q)) [
      | inl at ↦
          ap (λ o. cons_option o (filter_map g ks)) (own k at) ∙ rest
          ∙ sym (drops_one test (x k) (there k) old (tests k ∙ ap not at))
      | inr off ↦
          ap (λ o. cons_option o (filter_map g ks)) (others k off)
          ∙ ap (cons_option (if there k then Some (x k) else None)) rest
          ∙ sym (keeps_one test (x k) (there k) old (tests k ∙ ap not off))
    ]
