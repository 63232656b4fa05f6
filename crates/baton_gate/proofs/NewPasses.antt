-- The passes of a new gate, in the order of their numbers.
use Rattle.std.proofs.Common.{◌≡◌, ℕ, zero, suc, ◌+◌, List, [], ◌∷◌, ◌++◌, length, Some, slice_get, sym, refl, ap}
use Rattle.std.proofs.Common.{◌∙◌, subst, ◌⊎◌, inl, inr, ⊎_elim, arith, insert}
use Rattle.std.proofs.lemmas.Option.{same_Some, none-some}
use Rattle.baton_gate.specs.declared.passes.Pass.{Pass}
use Rattle.baton_gate.specs.declared.gate.Gate.{Gate}
use Rattle.baton_gate.specs.declared.views.View.{View}
use Rattle.baton_gate.specs.Course.{opened, newcomer}
use Rattle.baton_gate.specs.Passes.{IsPassOf, IsNewPass, known}

-- what stands in a list with one more element
got_more : {A : Type 0} (xs : List A) (y u : A) (k : ℕ) → slice_get (xs ++ y ∷ []) k ≡ Some u → (slice_get xs k ≡ Some u) ⊎ ((k ≡ length xs) × (y ≡ u))
got_more [] y u zero e = inr (refl, same_Some y u e)
got_more [] y u (suc k) e = absurd (none-some u e)
got_more (x ∷ xs) y u zero e = inl e
got_more (x ∷ xs) y u (suc k) e = ⊎_elim (λ t. inl t) (λ (t : (k ≡ length xs) × (y ≡ u)). inr ((let p = t.0 in omega arith), t.1)) (got_more xs y u k e)

insert_first : {A : Type 0} (xs : List A) (x : A) → insert xs 0 x ≡ x ∷ xs
insert_first xs x = refl

module _ {S I F : Type 0} where
  -- the passes after that of party 0
  pub record AreNext (gate : Gate S I F) (passes : List (Pass S I F)) (count : ℕ) (log : List I) (frame : F) : Type 0 where
    pub each : (k : ℕ) (p : Pass S I F) → slice_get passes k ≡ Some p → IsNewPass gate p (k + 1) count log frame

  pub next_none : (gate : Gate S I F) (passes : List (Pass S I F)) (count : ℕ) (log : List I) (frame : F) → passes ≡ [] → AreNext gate passes count log frame
  next_none gate passes count log frame e = record { each = λ k p at. absurd (none-some p (ap (λ l. slice_get l k) (sym e) ∙ at)) }

  pub next_more : (gate : Gate S I F) (passes more : List (Pass S I F)) (next : Pass S I F) (number count : ℕ) (log : List I) (frame : F) → AreNext gate passes count log frame
      → more ≡ passes ++ next ∷ [] → number ≡ length passes + 1 → IsNewPass gate next number count log frame → AreNext gate more count log frame
  next_more gate passes more next number count log frame before e place new = record {
    each = λ k p at. ⊎_elim (λ was. before.each k p was)
        (λ (last : (k ≡ length passes) × (next ≡ p)). subst (λ (y : ℕ × Pass S I F). IsNewPass gate y.1 y.0 count log frame) (λ i. ((place ∙ ap (λ n. n + 1) (sym last.0)) i, last.1 i)) new)
        (got_more passes next p k (ap (λ l. slice_get l k) (sym e) ∙ at));
  }

  with_first : (gate : Gate S I F) (first : Pass S I F) (rest : List (Pass S I F)) (count : ℕ) (log : List I) (frame : F) → IsNewPass gate first 0 count log frame → AreNext gate rest count log frame
      → (k : ℕ) (p : Pass S I F) → slice_get (first ∷ rest) k ≡ Some p → IsNewPass gate p k count log frame
  with_first gate first rest count log frame new next zero p at = subst (λ (y : Pass S I F). IsNewPass gate y 0 count log frame) (same_Some first p at) new
  with_first gate first rest count log frame new next (suc k) p at = subst (λ (n : ℕ). IsNewPass gate p n count log frame) (omega arith) (next.each k p at)

  -- all passes, once that of party 0 stands before the others
  pub all_new : (gate : Gate S I F) (first : Pass S I F) (rest all : List (Pass S I F)) (count : ℕ) (log : List I) (frame : F) → all ≡ insert rest 0 first → IsNewPass gate first 0 count log frame
      → AreNext gate rest count log frame → (k : ℕ) (p : Pass S I F) → slice_get all k ≡ Some p → IsNewPass gate p k count log frame
  all_new gate first rest all count log frame e new next k p at = with_first gate first rest count log frame new next k p (ap (λ l. slice_get l k) (sym (e ∙ insert_first rest first)) ∙ at)

  -- a pass that was just made
  pub made_new : (gate : Gate S I F) (first p : Pass S I F) (number count : ℕ) (log : List I) (frame : F) → IsPassOf gate p → known p ≡ newcomer (known first)
      → known first ≡ record (opened count frame log) { made = number } → p.party ≡ number → p.takes ≡ 0 → IsNewPass gate p number count log frame
  made_new gate first p number count log frame of e f party takes = record {
    of_gate = of;
    number_is = party;
    count_is = ap (λ (v : View I F). v.parties) e ∙ ap (λ (v : View I F). v.parties) f;
    seen_is = ap (λ (v : View I F). v.seen) e ∙ ap (λ (v : View I F). v.opening) f;
    opening_is = ap (λ (v : View I F). v.opening) e ∙ ap (λ (v : View I F). v.opening) f;
    frame_is = ap (λ (v : View I F). v.frame) e ∙ ap (λ (v : View I F). v.frame) f;
    free = ap (λ (v : View I F). v.holds) e;
    none_ended = ap (λ (v : View I F). v.ended) e;
    no_takes = takes;
  }

  -- the pass of party 0, once the others were made
  pub first_new : (gate : Gate S I F) (p : Pass S I F) (number count : ℕ) (log : List I) (frame : F) → IsPassOf gate p → known p ≡ record (opened count frame log) { made = number }
      → p.party ≡ 0 → p.takes ≡ 0 → IsNewPass gate p 0 count log frame
  first_new gate p number count log frame of f party takes = record {
    of_gate = of;
    number_is = party;
    count_is = ap (λ (v : View I F). v.parties) f;
    seen_is = ap (λ (v : View I F). v.seen) f;
    opening_is = ap (λ (v : View I F). v.opening) f;
    frame_is = ap (λ (v : View I F). v.frame) f;
    free = ap (λ (v : View I F). v.holds) f;
    none_ended = ap (λ (v : View I F). v.ended) f;
    no_takes = takes;
  }
