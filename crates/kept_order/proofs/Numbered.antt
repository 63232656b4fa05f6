-- Lists of what there is at some of the numbers of a range, in the order of the numbers: where there is one more, it stands between those
-- of lower and those of higher numbers.
use Rattle.std.proofs.Common.{◌≡◌, ◌==◌, ◌+◌, ◌<◌, ◌≤◌, ◌∷◌, [], ◌++◌, ◌∙◌, ℕ, zero, suc, Bool, true, false, List, Option, Some, None}
use Rattle.std.proofs.Common.{refl, sym, ap, arith, nat_lt, inl, inr}
use Rattle.std.specs.Prelude.{if◌then◌else◌, filter}
use Rattle.std.specs.List.{filter_map, cons_option, range_with_len}
use Rattle.std.proofs.lemmas.Bool.{cases_Bool, false≢true, lt-ltb, le-ltb}
use Rattle.std.proofs.lemmas.Bool.Decides.{nat_tests}

-- what there is at a number, where a test says so
abbrev pub given : {A : Type 0} → (ℕ → Bool) → (ℕ → A) → ℕ → Option A
given test made k = if test k then Some (made k) else None

abbrev pub all_given : {A : Type 0} → (ℕ → Bool) → (ℕ → A) → ℕ → ℕ → List A
all_given test made a n = filter_map (given test made) (range_with_len a n)

abbrev pub below : {A : Type 0} → (A → ℕ) → ℕ → List A → List A
below number q xs = filter (λ x. nat_lt (number x) q) xs

abbrev pub above : {A : Type 0} → (A → ℕ) → ℕ → List A → List A
above number q xs = filter (λ x. nat_lt q (number x)) xs

gives : {A : Type 0} (is : Bool) (x : A) (rest : List A) → is ≡ true → cons_option (if is then Some x else None) rest ≡ x ∷ rest
gives true x rest is = refl
gives false x rest is = absurd (false≢true is)

gives_none : {A : Type 0} (is : Bool) (x : A) (rest : List A) → is ≡ false → cons_option (if is then Some x else None) rest ≡ rest
gives_none true x rest is = absurd (false≢true (sym is))
gives_none false x rest is = refl

keeps : {A : Type 0} (p : A → Bool) (x : A) (rest : List A) → p x ≡ true → filter p (x ∷ rest) ≡ x ∷ filter p rest
keeps p x rest is = rw is refl

drops : {A : Type 0} (p : A → Bool) (x : A) (rest : List A) → p x ≡ false → filter p (x ∷ rest) ≡ filter p rest
drops p x rest is = rw is refl

-- each knows its number
abbrev pub AreNumbered : {A : Type 0} → (A → ℕ) → (ℕ → A) → Type 0
AreNumbered number made = (k : ℕ) → number (made k) ≡ k

none_below : {A : Type 0} (number : A → ℕ) (test : ℕ → Bool) (made : ℕ → A) (q a n : ℕ) → AreNumbered number made → q < a
    → below number q (all_given test made a n) ≡ []
none_below number test made q a zero numbered low = refl
none_below number test made q a (suc n) numbered low =
    let rest = all_given test made (a + 1) n in
    let ih : below number q rest ≡ [] = none_below number test made q (a + 1) n numbered (omega (arith, low)) in
    elim (cases_Bool (test a)) [
      | inr none ↦ ap (below number q) (gives_none (test a) (made a) rest none) ∙ ih
      | inl is ↦
          ap (below number q) (gives (test a) (made a) rest is)
          ∙ drops (λ x. nat_lt (number x) q) (made a) rest (le-ltb (number (made a)) q (omega (arith, low, numbered a))) ∙ ih
    ]

all_above : {A : Type 0} (number : A → ℕ) (test : ℕ → Bool) (made : ℕ → A) (q a n : ℕ) → AreNumbered number made → q < a
    → above number q (all_given test made a n) ≡ all_given test made a n
all_above number test made q a zero numbered low = refl
all_above number test made q a (suc n) numbered low =
    let rest = all_given test made (a + 1) n in
    let ih : above number q rest ≡ rest = all_above number test made q (a + 1) n numbered (omega (arith, low)) in
    elim (cases_Bool (test a)) [
      | inr none ↦ ap (above number q) (gives_none (test a) (made a) rest none) ∙ ih ∙ sym (gives_none (test a) (made a) rest none)
      | inl is ↦
          ap (above number q) (gives (test a) (made a) rest is)
          ∙ keeps (λ x. nat_lt q (number x)) (made a) rest (lt-ltb q (number (made a)) (omega (arith, low, numbered a)))
          ∙ ap (λ xs. made a ∷ xs) ih ∙ sym (gives (test a) (made a) rest is)
    ]

given_same : {A : Type 0} (old new : ℕ → Bool) (made : ℕ → A) (a n : ℕ) → ((k : ℕ) → a ≤ k → new k ≡ old k)
    → all_given new made a n ≡ all_given old made a n
given_same old new made a zero same = refl
given_same old new made a (suc n) same =
    ap (λ (b : Bool). cons_option (if b then Some (made a) else None) (all_given new made (a + 1) n)) (same a (omega arith))
    ∙ ap (cons_option (given old made a)) (given_same old new made (a + 1) n (λ k low. same k (omega (arith, low))))

-- those with one more, by those without it
abbrev pub with_one : {A : Type 0} → (A → ℕ) → ℕ → A → List A → List A
with_one number q x xs = below number q xs ++ x ∷ above number q xs

-- a lower one stays before it
later : {A : Type 0} (number : A → ℕ) (q : ℕ) (x y : A) (rest : List A) → number y < q
    → y ∷ with_one number q x rest ≡ with_one number q x (y ∷ rest)
later number q x y rest low =
    let kept : below number q (y ∷ rest) ≡ y ∷ below number q rest =
    keeps (λ z. nat_lt (number z) q) y rest (lt-ltb (number y) q low) in
    let dropped : above number q (y ∷ rest) ≡ above number q rest =
    drops (λ z. nat_lt q (number z)) y rest (le-ltb q (number y) (omega (arith, low))) in
    ap (λ xs. xs ++ x ∷ above number q rest) (sym kept) ∙ ap (λ xs. below number q (y ∷ rest) ++ x ∷ xs) (sym dropped)

pub one_more : {A : Type 0} (number : A → ℕ) (old new : ℕ → Bool) (made : ℕ → A) (q a n : ℕ) → AreNumbered number made
    → ((k : ℕ) → (k == q) ≡ false → new k ≡ old k) → old q ≡ false → new q ≡ true → a ≤ q → q < a + n
    → all_given new made a n ≡ with_one number q (made q) (all_given old made a n)
one_more number old new made q a zero numbered same was is low high = absurd (omega (arith, low, high))
one_more number old new made q a (suc n) numbered same was is low high =
    let rest = all_given old made (a + 1) n in
    elim (cases_Bool (a == q)) [
      | inl at ↦
          let e : q ≡ a = grind (arith, nat_tests, at) in
          let far : q < a + 1 = omega (arith, e) in
          gives (new a) (made a) (all_given new made (a + 1) n) (ap new (sym e) ∙ is)
          ∙ ap (λ x. x ∷ all_given new made (a + 1) n) (ap made (sym e))
          ∙ ap (λ xs. made q ∷ xs)
          (given_same old new made (a + 1) n (λ k low. same k (grind (arith, nat_tests, low, e)))
          ∙ sym (all_above number old made q (a + 1) n numbered far))
          ∙ ap (λ xs. xs ++ made q ∷ above number q rest) (sym (none_below number old made q (a + 1) n numbered far))
          ∙ ap (with_one number q (made q)) (sym (gives_none (old a) (made a) rest (ap old (sym e) ∙ was)))
      | inr off ↦
          let next : a + 1 ≤ q = grind (arith, nat_tests, off, low) in
          let ih : all_given new made (a + 1) n ≡ with_one number q (made q) rest =
          one_more number old new made q (a + 1) n numbered same was is next (omega (arith, high)) in
          let first : all_given new made a (suc n) ≡ cons_option (given old made a) (with_one number q (made q) rest) =
          ap (λ (b : Bool). cons_option (if b then Some (made a) else None) (all_given new made (a + 1) n)) (same a off)
          ∙ ap (cons_option (given old made a)) ih in
          elim (cases_Bool (old a)) [
            | inr none ↦
                first ∙ gives_none (old a) (made a) (with_one number q (made q) rest) none
                ∙ ap (with_one number q (made q)) (sym (gives_none (old a) (made a) rest none))
            | inl has ↦
                first ∙ gives (old a) (made a) (with_one number q (made q) rest) has
                ∙ later number q (made q) (made a) rest (omega (arith, next, numbered a))
                ∙ ap (with_one number q (made q)) (sym (gives (old a) (made a) rest has))
          ]
    ]
