-- Words that spell sets, one after the other.
use Rattle.std.proofs.Common.{◌≡◌, ◌+◌, ◌-◌, ◌<◌, ◌≤◌, ℕ, List, [], ◌∷◌, ◌++◌, length, get_or, take, map, Ok, Err, refl, sym, ap, subst, ◌∙◌, arith}
use Rattle.std.proofs.lemmas.List.{map_more, map_push, get_or-map, length-map}
use Rattle.flat_model.specs.declared.plugins.SetSpec.{SetSpec}
use Rattle.run_script.specs.declared.refusals.SpecRefusal.{SpecRefusal}
use Rattle.run_script.specs.Words.{spelt}
use Rattle.call_inputs.specs.declared.refusals.Refusal.{Refusal}
use Rattle.call_inputs.specs.declared.refusals.Refusal.TheVariants as refusals
use Rattle.call_inputs.specs.Inputs.{AreSpelt}
use Rattle.call_inputs.specs.Causes.{BreaksWord, WordCause, SpellingCause}

more_spelt : (texts : List (List ℕ)) (i : ℕ) (sets : List SetSpec) (text : List ℕ) (set : SetSpec) → i < length texts
    → get_or texts i [] ≡ text → AreSpelt (take i texts) sets → spelt text ≡ Ok set → AreSpelt (take (i + 1) texts) (sets ++ set ∷ [])
more_spelt texts i sets text set lt is before ok =
    map_more spelt texts i [] lt
    ∙ ap (λ s. map spelt (take i texts) ++ s ∷ []) (ap spelt is ∙ ok)
    ∙ ap (λ xs. xs ++ Ok set ∷ []) before
    ∙ sym (map_push (λ (s : SetSpec). Ok s) sets set)

broken_there : (texts : List (List ℕ)) (i : ℕ) (sets : List SetSpec) (text : List ℕ) (r : Refusal) → i < length texts
    → get_or texts i [] ≡ text → AreSpelt (take i texts) sets → WordCause (i + 1) text r → SpellingCause texts r
broken_there texts i sets text refusals.Usage lt is before cause = absurd cause
broken_there texts i sets text (refusals.CannotRead input) lt is before cause = absurd cause
broken_there texts i sets text (refusals.TooLong input) lt is before cause = absurd cause
broken_there texts i sets text (refusals.Image refusal) lt is before cause = absurd cause
broken_there texts i sets text (refusals.Word number refusal) lt is before cause =
    let at : number ≡ i + 1 = cause.0 in
    let place : i ≡ number - 1 = omega arith in
    record {
      first = omega arith;
      within = omega arith;
      sets = sets;
      before = subst (λ n. AreSpelt (take n texts) sets) place before;
      broken = subst (λ n. spelt (get_or texts n []) ≡ Err refusal) place (ap spelt is ∙ cause.1);
    }
broken_there texts i sets text (refusals.Install number refusal) lt is before cause = absurd cause
broken_there texts i sets text (refusals.Script refusal) lt is before cause = absurd cause
broken_there texts i sets text (refusals.Journal refusal) lt is before cause = absurd cause
broken_there texts i sets text (refusals.OtherRun head) lt is before cause = absurd cause
broken_there texts i sets text (refusals.NotThisRun place) lt is before cause = absurd cause
broken_there texts i sets text refusals.OutOfMemory lt is before cause = tt

-- the same where the words are what something shows of a list

pub more_of : {A : Type 0} (f : A → List ℕ) (xs : List A) (i : ℕ) (d : A) (sets : List SetSpec) (set : SetSpec) → i < length xs
    → AreSpelt (take i (map f xs)) sets → spelt (f (get_or xs i d)) ≡ Ok set → AreSpelt (take (i + 1) (map f xs)) (sets ++ set ∷ [])
more_of f xs i d sets set lt before ok =
    let below : i < length (map f xs) = omega (arith, length-map xs f) in
    more_spelt (map f xs) i sets (f (get_or xs i d)) set below (get_or-map f xs i d [] lt) before ok

pub broken_of : {A : Type 0} (f : A → List ℕ) (xs : List A) (i : ℕ) (d : A) (sets : List SetSpec) (r : Refusal) → i < length xs
    → AreSpelt (take i (map f xs)) sets → WordCause (i + 1) (f (get_or xs i d)) r → SpellingCause (map f xs) r
broken_of f xs i d sets r lt before cause =
    let below : i < length (map f xs) = omega (arith, length-map xs f) in
    broken_there (map f xs) i sets (f (get_or xs i d)) r below (get_or-map f xs i d [] lt) before cause
