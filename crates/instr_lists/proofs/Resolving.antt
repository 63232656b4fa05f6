-- The slots of a sort of event, one subscription after the other.
use Rattle.std.proofs.Common.{◌≡◌, ◌<◌, ◌≤◌, ◌+◌, ◌∙◌, ◌++◌, ◌∷◌, [], ℕ, zero, suc, true, false, List, length, drop, sym, ap, arith}
use Rattle.std.proofs.Common.{append_assoc}
use Rattle.std.specs.Prelude.{slice_index_or, if◌then◌else◌}
use Rattle.std.proofs.lemmas.List.{append-nil, drop_all}
use Rattle.flat_model.specs.declared.plugins.SetSpec.{SetSpec}
use Rattle.flat_model.specs.declared.plugins.Sub.{Sub}
use Rattle.instr_lists.specs.declared.sorts.Sort.{Sort}
use Rattle.instr_lists.specs.declared.slots.Slot.{Slot}
use Rattle.instr_lists.specs.Sorts.{passes}
use Rattle.instr_lists.specs.Slots.{slots_in, slots_from}

pub drop_here : {X : Type 0} (xs : List X) (i : ℕ) (x : X) → i < length xs → x ≡ slice_index_or xs i x → drop i xs ≡ x ∷ drop (i + 1) xs
drop_here [] i x below is = absurd (omega (arith, below))
drop_here (y ∷ ys) zero x below is = ap (λ z. z ∷ ys) (sym is)
drop_here (y ∷ ys) (suc i) x below is =
    let next : suc i + 1 ≡ suc (i + 1) = omega arith in
    rw next (drop_here ys i x (omega (arith, below)) is)

module _ (k i : ℕ) (sort : Sort) (subs : List Sub) (s : Sub) (before all : List Slot)
    (below : i < length subs) (is : s ≡ slice_index_or subs i s)
    (so_far : before ++ slots_in k i sort (drop i subs) ≡ all) where
  pub slot_more : passes s.filter sort ≡ true
      → (before ++ record { set = k; sub = i } ∷ []) ++ slots_in k (i + 1) sort (drop (i + 1) subs) ≡ all
  unfolding slots_in
  slot_more lets =
      let rest = slots_in k (i + 1) sort (drop (i + 1) subs) in
      let slot : Slot = record { set = k; sub = i } in
      let here : slots_in k i sort (drop i subs) ≡ slot ∷ rest =
      ap (slots_in k i sort) (drop_here subs i s below is)
      ∙ ap (λ b. if b then slot ∷ rest else rest) lets in
      append_assoc before (slot ∷ []) rest ∙ (ap (λ l. before ++ l) (sym here) ∙ so_far)

  pub slot_none : passes s.filter sort ≡ false → before ++ slots_in k (i + 1) sort (drop (i + 1) subs) ≡ all
  unfolding slots_in
  slot_none stops =
      let rest = slots_in k (i + 1) sort (drop (i + 1) subs) in
      let slot : Slot = record { set = k; sub = i } in
      let here : slots_in k i sort (drop i subs) ≡ rest =
      ap (slots_in k i sort) (drop_here subs i s below is)
      ∙ ap (λ b. if b then slot ∷ rest else rest) stops in
      ap (λ l. before ++ l) (sym here) ∙ so_far

pub slots_done : (k i : ℕ) (sort : Sort) (subs : List Sub) (before all : List Slot) → length subs ≤ i
    → before ++ slots_in k i sort (drop i subs) ≡ all → before ≡ all
unfolding slots_in
slots_done k i sort subs before all whole so_far =
    sym (append-nil before) ∙ (ap (λ l. before ++ slots_in k i sort l) (sym (drop_all i subs whole)) ∙ so_far)

pub set_more : (k : ℕ) (sort : Sort) (sets : List (ℕ × SetSpec)) (s : ℕ × SetSpec) (before all : List Slot)
    → k < length sets → s ≡ slice_index_or sets k s → before ++ slots_from k sort (drop k sets) ≡ all
    → (before ++ slots_in k 0 sort s.1.subs) ++ slots_from (k + 1) sort (drop (k + 1) sets) ≡ all
unfolding slots_from
set_more k sort sets s before all below is so_far =
    let rest = slots_from (k + 1) sort (drop (k + 1) sets) in
    let here : slots_from k sort (drop k sets) ≡ slots_in k 0 sort s.1.subs ++ rest = ap (slots_from k sort) (drop_here sets k s below is) in
    append_assoc before (slots_in k 0 sort s.1.subs) rest ∙ (ap (λ l. before ++ l) (sym here) ∙ so_far)

pub sets_done : (k : ℕ) (sort : Sort) (sets : List (ℕ × SetSpec)) (before all : List Slot) → length sets ≤ k
    → before ++ slots_from k sort (drop k sets) ≡ all → before ≡ all
unfolding slots_from
sets_done k sort sets before all whole so_far =
    sym (append-nil before) ∙ (ap (λ l. before ++ slots_from k sort l) (sym (drop_all k sets whole)) ∙ so_far)
