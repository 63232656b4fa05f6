-- What one mark does to the log of a tape.
use Rattle.std.proofs.Common.{◌≡◌, ℕ, List, [], ◌∷◌, ◌++◌, reverse, Result, Ok, Err, is_ok, if◌then◌else◌, sym}
use Rattle.std.proofs.Common.{refl, ap, ◌∙◌, subst}
use Rattle.std.proofs.lemmas.List.{reverse-append}
use Rattle.baton_gate.specs.Logs.{Adds}
use Rattle.baton_gate.proofs.LogLemmas.{goes_nowhere, goes_once}

-- the mark joins the others, or there was no room for it
pub marked : {E : Type 0} (r : Result (Unit {0}) E) (before after : List (ℕ × ℕ)) (party number : ℕ) → after ≡ (if is_ok r then before ++ (party, number) ∷ [] else before)
    → Adds (λ m. m.0) (reverse after) party (reverse before)
marked (Ok u) before after party number e =
    let P : ℕ × ℕ → Type 0 = λ m. m.0 ≡ party in
    subst (λ (l : List (ℕ × ℕ)). Adds (λ m. m.0) l party (reverse before)) (sym (ap reverse e ∙ reverse-append before ((party, number) ∷ []))) (goes_once P (reverse before) (party, number) refl)
marked (Err x) before after party number e =
    let P : ℕ × ℕ → Type 0 = λ m. m.0 ≡ party in
    subst (λ (l : List (ℕ × ℕ)). Adds (λ m. m.0) l party (reverse before)) (sym (ap reverse e)) (goes_nowhere P (reverse before))
