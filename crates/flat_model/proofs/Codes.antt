-- At most one region has the bytes of a word.
use Rattle.std.proofs.Common.{◌≡◌, ℕ, ◌+◌, ◌<◌, ◌≤◌, ◌&&◌, true, false, List, length, get_or, Some, refl, sym}
use Rattle.std.proofs.Common.{◌∙◌, ap, arith, inl, inr}
use Rattle.std.specs.List.{position_or_len, AllPairs, slice_get}
use Rattle.std.proofs.lemmas.List.Folds.{find_at}
use Rattle.std.proofs.lemmas.List.Sums.{position_or_len_is}
use Rattle.std.proofs.lemmas.Option.{slice_get-get_or}
use Rattle.std.proofs.lemmas.Bool.Decides.{nat_tests}
use Rattle.flat_model.specs.Image.{Segment, AreApart, end_of, holds, code_at}

held : (pc : ℕ) (s : Segment) → (s.x && holds pc 4 s) ≡ true → (s.base ≤ pc) × (pc + 4 ≤ end_of s)
held pc s h = grind (arith, nat_tests)

-- two regions that don't share a byte haven't the same word
alone : (pc : ℕ) (s t : Segment) → AreApart s t → (t.x && holds pc 4 t) ≡ true → (s.x && holds pc 4 s) ≡ false
alone pc s t apart h =
    let f = held pc t h in
    elim (s.x && holds pc 4 s) as (λ b. (s.x && holds pc 4 s) ≡ b → b ≡ false) [
      | true ↦ λ e.
          let g = held pc s e in
          elim apart [
            | inl a ↦ absurd (omega (arith, a, f.0, f.1, g.0, g.1))
            | inr a ↦ absurd (omega (arith, a, f.0, f.1, g.0, g.1))
          ]
      | false ↦ λ e. refl
    ] refl

-- a region that has the word is the one that is found
pub code_found : (regions : List Segment) (pc i : ℕ) (s : Segment)
    → AllPairs AreApart regions → i < length regions
    → s ≡ get_or regions i s
    → (s.x && holds pc 4 s) ≡ true
    → Some s ≡ code_at regions pc
code_found regions pc i s apart below is h =
    let first : position_or_len (λ r. r.x && holds pc 4 r) regions ≡ i = position_or_len_is (λ r. r.x && holds pc 4 r) regions i s (omega arith) (λ j order. alone pc (get_or regions j s) (get_or regions i s) (apart j i s order below) (rw (← is) h)) (λ _. rw (← is) h) in
    let found : code_at regions pc ≡ slice_get regions i = rw first at (find_at (λ r. r.x && holds pc 4 r) regions) in
    sym (found ∙ slice_get-get_or regions i s below ∙ ap Some (sym is))
