-- No slot is where no subscription hears.
use Rattle.std.proofs.Common.{◌≡◌, ◌∙◌, ◌+◌, ◌++◌, ◌∷◌, ◌&&◌, [], ℕ, suc, Bool, true, false, List, length, refl, ap, arith}
use Rattle.std.proofs.lemmas.Bool.Decides.{nat_tests}
use Rattle.std.specs.Prelude.{◌==◌, if◌then◌else◌, flat_map, not}
use Rattle.std.specs.List.{list_all}
use Rattle.flat_model.specs.declared.plugins.SetSpec.{SetSpec}
use Rattle.flat_model.specs.declared.plugins.Sub.{Sub}
use Rattle.instr_lists.specs.declared.sorts.Sort.{Sort}
use Rattle.instr_lists.specs.declared.slots.Slot.{Slot}
use Rattle.instr_lists.specs.Sorts.{passes}
use Rattle.instr_lists.specs.Slots.{slots_in, slots_from, slots_of}
use Rattle.instr_lists.specs.Silence.{is_deaf, at_all}

abbrev none : List Slot → Bool
none [] = true
none (x ∷ xs) = false

not_none : (n : ℕ) → (suc n == 0) ≡ false
not_none n = grind (arith, nat_tests)

empty_is_none : (xs : List Slot) → (length xs == 0) ≡ none xs
empty_is_none [] = refl
empty_is_none (x ∷ xs) = not_none (length xs)

both_none : (xs ys : List Slot) → none (xs ++ ys) ≡ (none xs && none ys)
both_none [] ys = refl
both_none (x ∷ xs) ys = refl

in_one : (k i : ℕ) (sort : Sort) (subs : List Sub) → none (slots_in k i sort subs) ≡ list_all (is_deaf sort) subs
unfolding slots_in
in_one k i sort [] = refl
in_one k i sort (s ∷ subs) =
    let slot : Slot = record { set = k; sub = i } in
    let rest = slots_in k (i + 1) sort subs in
    elim (passes s.filter sort) as (λ b. none (if b then slot ∷ rest else rest) ≡ (not b && list_all (is_deaf sort) subs)) [
      | true ↦ refl
      | false ↦ in_one k (i + 1) sort subs
    ]

in_sets : (k : ℕ) (sort : Sort) (sets : List (ℕ × SetSpec))
    → none (slots_from k sort sets) ≡ list_all (λ s. list_all (is_deaf sort) s.1.subs) sets
unfolding slots_from
in_sets k sort [] = refl
in_sets k sort (s ∷ sets) =
    both_none (slots_in k 0 sort s.1.subs) (slots_from (k + 1) sort sets)
    ∙ (ap (λ b. b && none (slots_from (k + 1) sort sets)) (in_one k 0 sort s.1.subs)
    ∙ ap (λ b. list_all (is_deaf sort) s.1.subs && b) (in_sets (k + 1) sort sets))

none_is_deaf : (sets : List (ℕ × SetSpec)) (sorts : List Sort) → none (flat_map (slots_of sets) sorts) ≡ at_all is_deaf sets sorts
none_is_deaf sets [] = refl
none_is_deaf sets (sort ∷ sorts) =
    both_none (slots_of sets sort) (flat_map (slots_of sets) sorts)
    ∙ (ap (λ b. b && none (flat_map (slots_of sets) sorts)) (in_sets 0 sort sets)
    ∙ ap (λ b. list_all (λ (s : ℕ × SetSpec). list_all (is_deaf sort) s.1.subs) sets && b) (none_is_deaf sets sorts))

pub empty_is_deaf : (sets : List (ℕ × SetSpec)) (sorts : List Sort)
    → (length (flat_map (slots_of sets) sorts) == 0) ≡ at_all is_deaf sets sorts
empty_is_deaf sets sorts = empty_is_none (flat_map (slots_of sets) sorts) ∙ none_is_deaf sets sorts
