-- What was touched last, and what a touch that looks back sees of it.
use Rattle.std.proofs.Common.{◌≡◌, ℕ, zero, suc, ◌%◌, ◌==◌, ◌&&◌, ◌||◌, not, nat_lt, nat_eq, Bool, true, false, cond}
use Rattle.std.proofs.Common.{if◌then◌else◌, List, [], ◌∷◌, length, take, refl, sym, ap, ◌∙◌, subst, arith}
use Rattle.std.specs.List.{filter}
use Rattle.std.proofs.lemmas.Bool.Decides.{nat_tests}
use Rattle.std.proofs.lemmas.Map.Views.{any-filter_same}
use Rattle.cache_model.specs.Hits.{different, since_last, was_touched, looks_back}
use Rattle.cache_model.specs.Kept.{latest_in}

abbrev pub without : ℕ → List ℕ → List ℕ
without l ls = filter (λ m. not (m == l)) ls

-- without the first l
abbrev pub removed : ℕ → List ℕ → List ℕ
removed l [] = []
removed l (k ∷ ks) = cond (k == l) ks (k ∷ removed l ks)

pub same : (l : ℕ) → (l == l) ≡ true
same l = grind (arith, nat_tests)

pub is_one : (k l : ℕ) → (k == l) ≡ true → k ≡ l
is_one k l h = grind (arith, nat_tests)

pub turned : (k l : ℕ) → nat_eq l k ≡ (k == l)
turned k l = grind (arith, nat_tests)

pub filter_filter : (p q : ℕ → Bool) (xs : List ℕ) → filter p (filter q xs) ≡ filter (λ m. q m && p m) xs
filter_filter p q [] = refl
filter_filter p q (x ∷ xs) =
    elim (q x) as (λ y. filter p (cond y (x ∷ filter q xs) (filter q xs))
    ≡ cond (y && p x) (x ∷ filter (λ m. q m && p m) xs) (filter (λ m. q m && p m) xs)) [
      | true ↦ ap (λ ls. cond (p x) (x ∷ ls) ls) (filter_filter p q xs)
      | false ↦ filter_filter p q xs
    ]

filter_all : (xs : List ℕ) → filter (λ _. true) xs ≡ xs
filter_all [] = refl
filter_all (x ∷ xs) = ap (λ ls. x ∷ ls) (filter_all xs)

none_below : (n : ℕ) → nat_lt n 0 ≡ false
none_below n = grind (arith, nat_tests)

some_below : (n : ℕ) → nat_lt 0 (suc n) ≡ true
some_below n = grind (arith, nat_tests)

more_below : (m n : ℕ) → nat_lt (suc m) (suc n) ≡ nat_lt m n
more_below m n = grind (arith, nat_tests)

-- The first n lines of a list without repeats, by how many stand before l.

here : (q : ℕ → Bool) (l n : ℕ) (past : List ℕ) → q l ≡ true
    → was_touched (take n (filter q (different (l ∷ past)))) l
    ≡ (was_touched (l ∷ past) l && nat_lt (length (filter q (different (since_last (l ∷ past) l)))) n)
here q l zero past passes = rw (same l) refl
here q l (suc n) past passes = rw (passes, same l) (sym (some_below n))

behind : (b : Bool) (x l n : ℕ) (kept since : List ℕ) (found : Bool) → (x == l) ≡ false
    → ((k : ℕ) → was_touched (take k kept) l ≡ (found && nat_lt (length since) k))
    → was_touched (take n (cond b (x ∷ kept) kept)) l ≡ (found && nat_lt (length (cond b (x ∷ since) since)) n)
behind false x l n kept since found other each = each n
behind true x l zero kept since true other each = sym (none_below (suc (length since)))
behind true x l zero kept since false other each = refl
behind true x l (suc n) kept since found other each =
    rw other (each n ∙ ap (λ b. found && b) (sym (more_below (length since) n)))

there : (q : ℕ → Bool) (x l n : ℕ) (past : List ℕ) → (x == l) ≡ false
    → ((k : ℕ) → was_touched (take k (filter (λ m. not (m == x) && q m) (different past))) l
    ≡ (was_touched past l && nat_lt (length (filter (λ m. not (m == x) && q m) (different (since_last past l)))) k))
    → was_touched (take n (filter q (different (x ∷ past)))) l
    ≡ (was_touched (x ∷ past) l && nat_lt (length (filter q (different (since_last (x ∷ past) l)))) n)
there q x l n past other each =
    rw other
    (rw (filter_filter q (λ m. not (m == x)) (different past))
    (rw (filter_filter q (λ m. not (m == x)) (different (since_last past l)))
    (behind (q x) x l n (filter (λ m. not (m == x) && q m) (different past))
    (filter (λ m. not (m == x) && q m) (different (since_last past l))) (was_touched past l) other each)))

-- l is among the first n of the lines that pass where it was touched and, since then, fewer than n others were
near : (q : ℕ → Bool) (l n : ℕ) (past : List ℕ) → q l ≡ true
    → was_touched (take n (filter q (different past))) l
    ≡ (was_touched past l && nat_lt (length (filter q (different (since_last past l)))) n)
near q l zero [] passes = refl
near q l (suc n) [] passes = refl
near q l n (x ∷ past) passes = (elim (x == l) as (λ y. (x == l) ≡ y
    → was_touched (take n (filter q (different (x ∷ past)))) l
    ≡ (was_touched (x ∷ past) l && nat_lt (length (filter q (different (since_last (x ∷ past) l)))) n)) [
      | true ↦ λ is. subst (λ m. was_touched (take n (filter q (different (m ∷ past)))) l
          ≡ (was_touched (m ∷ past) l && nat_lt (length (filter q (different (since_last (m ∷ past) l)))) n))
          (sym (is_one x l is)) (here q l n past passes)
      | false ↦ λ other. let l_passes : (not (l == x) && q l) ≡ true = rw passes (grind (arith, nat_tests)) in
          there q x l n past other (λ k. near (λ m. not (m == x) && q m) l k past l_passes)
    ]) refl

-- A set's touches stand among all.

since_joined : (b : Bool) (p : ℕ → Bool) (x l : ℕ) (past : List ℕ) → p x ≡ b → (x == l) ≡ false
    → since_last (filter p past) l ≡ filter p (since_last past l)
    → since_last (filter p (x ∷ past)) l ≡ filter p (since_last (x ∷ past) l)
since_joined true p x l past passes other same_rest = rw passes (rw other (rw passes (ap (λ ls. x ∷ ls) same_rest)))
since_joined false p x l past fails other same_rest = rw fails (rw other (rw fails same_rest))

since_filter : (p : ℕ → Bool) (l : ℕ) (past : List ℕ) → p l ≡ true → since_last (filter p past) l ≡ filter p (since_last past l)
since_filter p l [] passes = refl
since_filter p l (x ∷ past) passes = (elim (x == l) as (λ y. (x == l) ≡ y
    → since_last (filter p (x ∷ past)) l ≡ filter p (since_last (x ∷ past) l)) [
      | true ↦ λ is. let x_passes : p x ≡ true = rw (is_one x l is) passes in rw x_passes (rw is refl)
      | false ↦ λ other. since_joined (p x) p x l past refl other (since_filter p l past passes)
    ]) refl

touched_filter : (p : ℕ → Bool) (l : ℕ) (past : List ℕ) → p l ≡ true → was_touched (filter p past) l ≡ was_touched past l
touched_filter p l past passes = any-filter_same (λ m. m == l) p true (λ k is. rw (is_one k l is) passes) past

-- the lines that a set keeps are those at which a touch is a hit
pub kept_hits : (sets ways : ℕ) (past : List ℕ) (l : ℕ)
    → was_touched (take ways (latest_in sets (l % sets) past)) l ≡ looks_back sets ways past l
kept_hits sets ways past l =
    let p : ℕ → Bool = λ m. m % sets == l % sets in
    let in_set : p l ≡ true = same (l % sets) in
    let all = filter_all (different (filter p past)) in
    let since = filter_all (different (since_last (filter p past) l)) in
    let counted = near (λ _. true) l ways (filter p past) refl in
    let kept : was_touched (take ways (different (filter p past))) l
    ≡ (was_touched (filter p past) l && nat_lt (length (different (since_last (filter p past) l))) ways) =
    rw (all, since) at counted in
    kept ∙ rw (touched_filter p l past in_set, since_filter p l past in_set) refl

-- One touch more.

filter_twice : (p q : ℕ → Bool) (xs : List ℕ) → filter p (filter q (filter p xs)) ≡ filter q (filter p xs)
filter_twice p q [] = refl
filter_twice p q (x ∷ xs) = (elim (p x) as (λ y. p x ≡ y
    → filter p (filter q (cond y (x ∷ filter p xs) (filter p xs))) ≡ filter q (cond y (x ∷ filter p xs) (filter p xs))) [
      | true ↦ λ passes. elim (q x) as (λ z. filter p (cond z (x ∷ filter q (filter p xs)) (filter q (filter p xs)))
          ≡ cond z (x ∷ filter q (filter p xs)) (filter q (filter p xs))) [
            | true ↦ rw passes (ap (λ ls. x ∷ ls) (filter_twice p q xs))
            | false ↦ filter_twice p q xs
          ]
      | false ↦ λ _. filter_twice p q xs
    ]) refl

distinct_front : (b : Bool) (q : ℕ → Bool) (l x : ℕ) (past : List ℕ)
    → removed l (filter (λ m. not (m == x) && q m) (different past)) ≡ without l (filter (λ m. not (m == x) && q m) (different past))
    → removed l (cond b (x ∷ filter q (without x (different past))) (filter q (without x (different past))))
    ≡ without l (cond b (x ∷ filter q (without x (different past))) (filter q (without x (different past))))
distinct_front false q l x past rest = rw (filter_filter q (λ m. not (m == x)) (different past)) rest
distinct_front true q l x past rest = (elim (x == l) as (λ y. (x == l) ≡ y
    → cond y (filter q (without x (different past))) (x ∷ removed l (filter q (without x (different past))))
    ≡ cond (not y) (x ∷ without l (filter q (without x (different past)))) (without l (filter q (without x (different past))))) [
      | true ↦ λ is. rw (is_one x l is) (sym (filter_twice (λ m. not (m == l)) q (different past)))
      | false ↦ λ _. ap (λ ls. x ∷ ls) (rw (filter_filter q (λ m. not (m == x)) (different past)) rest)
    ]) refl

-- in a list without repeats there is one l at most
distinct : (q : ℕ → Bool) (l : ℕ) (past : List ℕ)
    → removed l (filter q (different past)) ≡ without l (filter q (different past))
distinct q l [] = refl
distinct q l (x ∷ past) = distinct_front (q x) q l x past (distinct (λ m. not (m == x) && q m) l past)

shift_behind : (b : Bool) (k m : ℕ) (these those ks : List ℕ) → (if b then these else take m those) ≡ ks
    → (if b then k ∷ these else k ∷ take m those) ≡ k ∷ ks
shift_behind true k m these those ks h = ap (λ ls. k ∷ ls) h
shift_behind false k m these those ks h = ap (λ ls. k ∷ ls) h

-- the first n + 1 without l, or without the last of them where l isn't there, are the first n of all without l
shift : (l n : ℕ) (ks : List ℕ)
    → (if was_touched (take (suc n) ks) l then removed l (take (suc n) ks) else take n (take (suc n) ks)) ≡ take n (removed l ks)
shift l n [] = refl
shift l zero (k ∷ ks) = elim (k == l) as (λ y.
    (if y || false then cond y [] (k ∷ []) else []) ≡ []) [
      | true ↦ refl
      | false ↦ refl
    ]
shift l (suc m) (k ∷ ks) = elim (k == l) as (λ y.
    (if y || was_touched (take (suc m) ks) l then cond y (take (suc m) ks) (k ∷ removed l (take (suc m) ks))
    else k ∷ take m (take (suc m) ks))
    ≡ take (suc m) (cond y ks (k ∷ removed l ks))) [
      | true ↦ refl
      | false ↦ shift_behind (was_touched (take (suc m) ks) l) k m (removed l (take (suc m) ks)) (take (suc m) ks)
          (take m (removed l ks)) (shift l m ks)
    ]

-- a set's lines after one more touch: l comes first, and of the others the latest stay
pub kept_more : (sets n : ℕ) (past : List ℕ) (l : ℕ) (ks : List ℕ) → ks ≡ take (suc n) (latest_in sets (l % sets) past)
    → l ∷ (if was_touched ks l then removed l ks else take n ks) ≡ take (suc n) (latest_in sets (l % sets) (l ∷ past))
kept_more sets n past l ks kept =
    let here_too : (l % sets == l % sets) ≡ true = same (l % sets) in
    let p : ℕ → Bool = λ m. m % sets == l % sets in
    let all = filter_all (different (filter p past)) in
    let one : removed l (different (filter p past)) ≡ without l (different (filter p past)) =
    rw all at (distinct (λ _. true) l (filter p past)) in
    rw (kept, here_too) (ap (λ ls. l ∷ ls) (shift l n (different (filter p past)) ∙ ap (take n) one))

-- another set's lines stay
pub kept_other : (sets s : ℕ) (past : List ℕ) (l : ℕ) → (l % sets == s) ≡ false → latest_in sets s (l ∷ past) ≡ latest_in sets s past
kept_other sets s past l other = rw other refl
