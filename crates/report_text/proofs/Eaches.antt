-- The texts of numbers one after the other, and what of a report is still to come.
use Rattle.std.proofs.Common.{◌≡◌, ◌<◌, ◌≤◌, ◌+◌, ◌-◌, ◌∙◌, ℕ, suc, Bool, true, false, List, [], ◌∷◌, ◌++◌, length}
use Rattle.std.proofs.Common.{refl, sym, ap, arith, append_assoc, append-nil, length-append}
use Rattle.std.specs.List.{flat_map, range_with_len}
use Rattle.std.proofs.lemmas.Bool.{false≢true}
use Rattle.report_text.specs.Report.{each}
use Rattle.report_text.specs.Places.{Goes}

module _ (text : ℕ → List ℕ) (from below : ℕ) where
  pub each_none : below ≤ from → each text from below ≡ []
  unfolding each
  each_none over = let none : below - from ≡ 0 = omega arith in ap (λ n. flat_map text (range_with_len from n)) none

  pub each_more : from < below → each text from below ≡ text from ++ each text (from + 1) below
  unfolding each
  each_more under =
      let one : below - from ≡ suc (below - (from + 1)) = omega arith in
      ap (λ n. flat_map text (range_with_len from n)) one

-- a line of what is due was put, and the rest stays
pub goes_on : (due line before after rest : List ℕ) → after ≡ before ++ line → due ≡ line ++ rest → 0 < length line
    → Goes due before after rest true
goes_on due line before after rest put is some = record {
  text = ap (λ xs. xs ++ rest) put ∙ (append_assoc before line rest ∙ ap (λ xs. before ++ xs) (sym is));
  grows = λ _. omega (arith, ap length put, length-append before line);
  ends = λ none. absurd (false≢true (sym none));
}

-- nothing is due
pub goes_none : (due before rest : List ℕ) → due ≡ [] → rest ≡ [] → Goes due before before rest false
goes_none due before rest is none = record {
  text = ap (λ xs. before ++ xs) (none ∙ sym is);
  grows = λ more. absurd (false≢true more);
  ends = λ _. none;
}

pub goes_as : (due other before after rest : List ℕ) (more : Bool) → due ≡ other → Goes other before after rest more → Goes due before after rest more
goes_as due other before after rest more is goes = record {
  text = goes.text ∙ ap (λ xs. before ++ xs) (sym is);
  grows = goes.grows;
  ends = goes.ends;
}

-- less is left after a line
pub goes_down : (due before after rest : List ℕ) → Goes due before after rest true → length rest < length due
goes_down due before after rest goes =
    omega (arith, goes.grows refl, length-append after rest, length-append before due, ap length goes.text)

pub goes_less : (due before after rest : List ℕ) (more : Bool) → Goes due before after rest more → more ≡ true → length rest < length due
goes_less due before after rest more goes is =
    omega (arith, goes.grows is, length-append after rest, length-append before due, ap length goes.text)
