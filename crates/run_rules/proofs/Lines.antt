-- A line that falls due in a Turn stands in time.
use Rattle.std.proofs.Common.{◌≡◌, ◌+◌, ◌<◌, ◌≤◌, ◌∷◌, [], ◌∙◌, ℕ, zero, suc, Bool, true, false, not}
use Rattle.std.proofs.Common.{List, Option, Some, None, refl, sym, ap, arith, nat_le, inl, inr, cond}
use Rattle.std.specs.Prelude.{length, if◌then◌else◌, slice_index_or, find, option_map, is_some}
use Rattle.std.specs.List.{count_by}
use Rattle.std.specs.List.Sorted.{IsNonDecreasingBy}
use Rattle.std.proofs.lemmas.Bool.{lt-ltb, le-leb, leb-true, leb-false, cases_Bool, false≢true}
use Rattle.std.specs.Cmp.Derive.{both_true}
use Rattle.std.proofs.lemmas.List.Sums.{sum_by-cons}
use Rattle.std.specs.Option.{option_or}
use Rattle.flat_model.specs.declared.journals.Item.{Item}
use Rattle.flat_model.specs.declared.journals.Timed.{Timed}
use Rattle.flat_model.specs.Log.{steps, total_steps}
use Rattle.flat_model.specs.Registry.{Plugins}
use Rattle.run_rules.specs.Guest.{Run, plugins}
use Rattle.run_rules.specs.Due.{Line, numbered, is_due, must_stand, owed_line, come, next_line, is_turning, turn_length, allowed, wanted, missing_install, line_item}
use Rattle.run_rules.specs.Legal.{passes_nothing_by}
use Rattle.run_rules.specs.Laws.{LinesAreInTime}
use Rattle.run_rules.proofs.Turns.{plugins_keep, turn_grows, first_true, rest_true}

-- Searches in a list.

-- what was found passes the test
found_head : {X : Type 0} (p : X → Bool) (b : Bool) (y x : X) (later : Option X)
    → p y ≡ b → (later ≡ Some x → p x ≡ true) → cond b (Some y) later ≡ Some x → p x ≡ true
found_head p true y x later is rest found = let e : y ≡ x = cc in ap p (sym e) ∙ is
found_head p false y x later is rest found = rest found

found_passes : {X : Type 0} (p : X → Bool) (xs : List X) (x : X) → find p xs ≡ Some x → p x ≡ true
found_passes p [] x found = absurd cc
found_passes p (y ∷ ys) x found = found_head p (p y) y x (find p ys) refl (found_passes p ys x) found

-- and is found by any test that it passes, if nothing before it is
again_head : {X : Type 0} (p : X → Bool) (first second : Bool) (y x : X) (before later : Option X)
    → p y ≡ second → (before ≡ Some x → later ≡ None → ⊥) → p x ≡ true
    → cond first (Some y) before ≡ Some x → cond second (Some y) later ≡ None → ⊥
again_head p first true y x before later is rest passes found none = absurd cc
again_head p true false y x before later is rest passes found none = let e : y ≡ x = cc in false≢true (sym is ∙ ap p e ∙ passes)
again_head p false false y x before later is rest passes found none = rest found none

found_again : {X : Type 0} (p q : X → Bool) (xs : List X) (x : X) → find q xs ≡ Some x → p x ≡ true → find p xs ≡ None → ⊥
found_again p q [] x found passes none = absurd cc
found_again p q (y ∷ ys) x found passes none =
    again_head p (q y) (p y) y x (find q ys) (find p ys) refl (λ f g. found_again p q ys x f passes g) passes found none

-- where a line was found among the numbered lines
pub record IsAt (xs : List Timed) (k : ℕ) (l : Line) : Type 0 where
  place : ℕ
  within : place < length xs
  there : slice_index_or xs place l.timed ≡ l.timed
  number : l.number ≡ k + place

at_head : (b : Bool) (k : ℕ) (t : Timed) (ts : List Timed) (later : Option Line) (l : Line)
    → (later ≡ Some l → IsAt ts (k + 1) l) → cond b (Some (record { number = k; timed = t })) later ≡ Some l → IsAt (t ∷ ts) k l
at_head true k t ts later l rest found =
    let e : l ≡ record { number = k; timed = t } = cc in
    record { place = 0; within = omega arith; there = sym (ap (λ (x : Line). x.timed) e); number = ap (λ (x : Line). x.number) e ∙ omega arith }
at_head false k t ts later l rest found =
    let at : IsAt ts (k + 1) l = rest found in
    record { place = suc at.place; within = omega (arith, at.within); there = at.there; number = omega (arith, at.number) }

found_at : (q : Line → Bool) (k : ℕ) (xs : List Timed) (l : Line) → find q (numbered k xs) ≡ Some l → IsAt xs k l
unfolding numbered
found_at q k [] l found = absurd cc
found_at q k (t ∷ ts) l found =
    at_head (q (record { number = k; timed = t })) k t ts (find q (numbered (k + 1) ts)) l (found_at q (k + 1) ts l) found

-- elements up to a place that pass are counted
abbrev one : Bool → ℕ
one b = cond b 1 0

count_more : {X : Type 0} (p : X → Bool) (x : X) (xs : List X) → count_by p (x ∷ xs) ≡ one (p x) + count_by p xs
count_more p x xs = sum_by-cons (λ x. cond (p x) 1 0) x xs

counts : {X : Type 0} (p : X → Bool) (xs : List X) (i : ℕ) (d : X)
    → i < length xs → ((j : ℕ) → j ≤ i → p (slice_index_or xs j d) ≡ true) → i + 1 ≤ count_by p xs
counts p [] i d within pass = absurd (omega (arith, within))
counts p (x ∷ xs) zero d within pass =
    let first : one (p x) ≡ 1 = ap one (pass 0 (omega arith)) in
    omega (arith, first, count_more p x xs)
counts p (x ∷ xs) (suc i) d within pass =
    let first : one (p x) ≡ 1 = ap one (pass 0 (omega arith)) in
    let rest : i + 1 ≤ count_by p xs = counts p xs i d (omega (arith, within)) (λ j le. pass (suc j) (omega (arith, le))) in
    omega (arith, first, rest, count_more p x xs)

-- a line whose moment has come is among those that have
found_counts : (q : Line → Bool) (xs : List Timed) (total : ℕ) (l : Line)
    → IsNonDecreasingBy (λ t. t.when) xs → find q (numbered 0 xs) ≡ Some l → l.timed.when ≤ total
    → l.number + 1 ≤ count_by (λ t. nat_le t.when total) xs
found_counts q xs total l sorted found low =
    let at : IsAt xs 0 l = found_at q 0 xs l found in
    let before : (j : ℕ) → j ≤ at.place → nat_le (slice_index_or xs j l.timed).when total ≡ true =
    λ j le. le-leb _ _ (omega (arith, sorted j at.place l.timed le at.within, ap (λ (t : Timed). t.when) at.there, low)) in
    omega (arith, at.number, counts (λ t. nat_le t.when total) xs at.place l.timed at.within before)

-- Logs that go on by steps.

total_grows : (h n : ℕ) (past : List Item) → total_steps (steps h n past) ≡ total_steps past + n
total_grows h zero past = omega arith
total_grows h (suc n) past = omega (arith, total_grows h n past)

next_after : (run : Run) (h n : ℕ) (past : List Item)
    → next_line run (steps h (suc n) past) ≡ (if is_turning h past then next_line run past else come run past)
unfolding next_line
next_after run h zero past = refl
next_after run h (suc n) past =
    rw (lt-ltb 0 (turn_length h (steps h (suc n) past)) (omega (arith, turn_grows h (suc n) past))) (next_after run h n past)

none_owed : {A B : Type 0} (m : Option B) (o : Option A) (f : A → B) → not (is_some (option_or m (option_map f o))) ≡ true → o ≡ None
none_owed None None f none = refl
none_owed None (Some x) f none = absurd (false≢true none)
none_owed (Some y) None f none = refl
none_owed (Some y) (Some x) f none = absurd (false≢true none)

owes_no_line : (run : Run) (past : List Item) → passes_nothing_by run past ≡ true → owed_line run past ≡ None
unfolding wanted
owes_no_line run past none = none_owed (missing_install run past) (owed_line run past) (line_item past) none

-- a line that is owed behind the Turn has a moment in it
falls_within : (run : Run) (h n : ℕ) (past : List Item) (l : Line)
    → IsNonDecreasingBy (λ t. t.when) run.plan.script → passes_nothing_by run past ≡ true
    → owed_line run (steps h (suc n) past) ≡ Some l → l.timed.when ≤ total_steps past → ⊥
falls_within run h n past l sorted none found low =
    let now = steps h (suc n) past in
    let stands : must_stand run now l ≡ true = found_passes (must_stand run now) (numbered 0 run.plan.script) l found in
    let due : is_due run now l ≡ true = first_true _ _ stands in
    let next : next_line run now ≤ l.number = leb-true (next_line run now) l.number (first_true _ _ due) in
    let allows : allowed (plugins run past) l.timed.order ≡ true =
    ap (λ (r : Plugins). allowed r l.timed.order) (sym (plugins_keep run h (suc n) past)) ∙ rest_true (is_due run now l) _ stands in
    elim (cases_Bool (is_turning h past)) [
      | inl is ↦
          let from : next_line run past ≤ l.number = omega (arith, next, next_after run h n past ∙ ap (λ (b : Bool). if b then next_line run past else come run past) is) in
          found_again (must_stand run past) (must_stand run now) (numbered 0 run.plan.script) l found
          (both_true (both_true (le-leb _ _ from) (le-leb _ _ low)) allows) (owes_no_line run past none)
      | inr is ↦
          let from : come run past ≤ l.number = omega (arith, next, next_after run h n past ∙ ap (λ (b : Bool). if b then next_line run past else come run past) is) in
          absurd (omega (arith, from, found_counts (must_stand run now) run.plan.script (total_steps past) l sorted found low))
    ]

pub none_is : {A : Type 0} (o : Option A) (x : A) → o ≡ None → o ≡ Some x → ⊥
none_is None x none some = absurd cc
none_is (Some y) x none some = absurd cc

pub lines_are_in_time : LinesAreInTime
lines_are_in_time run h zero past l sorted few none found = absurd (none_is (owed_line run past) l (owes_no_line run past none) found)
lines_are_in_time run h (suc n) past l sorted few none found =
    elim (cases_Bool (nat_le l.timed.when (total_steps past))) [
      | inl is ↦ absurd (falls_within run h n past l sorted none found (leb-true _ _ is))
      | inr later ↦ omega (arith, few, total_grows h (suc n) past, leb-false l.timed.when (total_steps past) later)
    ]
