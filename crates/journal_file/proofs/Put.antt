-- What is written one after the other.
use Rattle.std.proofs.Common.{◌≡◌, ℕ, ◌+◌, ◌<◌, ◌≤◌, List, [], ◌∷◌, ◌++◌, length, get_or, take, sym, ap}
use Rattle.std.proofs.Common.{subst, ◌∙◌, append_assoc, arith}
use Rattle.std.specs.List.{flat_map, AllByRecursion, AllWithin}
use Rattle.std.proofs.lemmas.List.{append-nil, length-append, take_more, take_all, get_or_default}
use Rattle.std.proofs.lemmas.Grind.{flat_map-append}
use Rattle.std.proofs.lemmas.List.Concat.{flat_map-cons}
use Rattle.std.proofs.lemmas.List.Elements.{AllWithin-more, recursion_from_All}

pub joins : (out front text all rest : List ℕ) → front ≡ out ++ text → all ≡ front ++ rest → all ≡ out ++ (text ++ rest)
joins out front text all rest first next = next ∙ ap (λ (t : List ℕ). t ++ rest) first ∙ append_assoc out text rest

flat_map-push : {A : Type 0} (spell : A → List ℕ) (xs : List A) (x : A) → flat_map spell (xs ++ x ∷ []) ≡ flat_map spell xs ++ spell x
flat_map-push spell xs x = flat_map-append spell xs (x ∷ []) ∙ ap (λ (t : List ℕ). flat_map spell xs ++ t) (flat_map-cons spell x [] ∙ append-nil (spell x))

-- the first i of xs are written behind out, and have a spelling
pub record AreWritten {A : Type 0} (spell : A → List ℕ) (Fits : A → Type 0) (out now : List ℕ) (xs : List A) (i : ℕ) : Type 0 where
  pub text : now ≡ out ++ flat_map spell (take i xs)
  pub fits : AllWithin Fits xs 0 i

pub AreWritten-none : {A : Type 0} (spell : A → List ℕ) (Fits : A → Type 0) (out : List ℕ) (xs : List A) → AreWritten spell Fits out out xs 0
AreWritten-none spell Fits out xs = record { text = sym (append-nil out); fits = λ k d low high. absurd (omega arith) }

pub AreWritten-more : {A : Type 0} (spell : A → List ℕ) (Fits : A → Type 0) (out now next : List ℕ) (xs : List A) (i : ℕ) (x d : A) → i < length xs → x ≡ get_or xs i d → next ≡ now ++ spell x → Fits x → AreWritten spell Fits out now xs i → AreWritten spell Fits out next xs (i + 1)
AreWritten-more spell Fits out now next xs i x d lt is put fit before =
    let more : take (i + 1) xs ≡ take i xs ++ x ∷ [] = take_more xs i d lt ∙ ap (λ v. take i xs ++ v ∷ []) (sym is) in
    let text : flat_map spell (take (i + 1) xs) ≡ flat_map spell (take i xs) ++ spell x = ap (flat_map spell) more ∙ flat_map-push spell (take i xs) x in
    record {
      text = joins out now (flat_map spell (take i xs)) next (spell x) before.text put ∙ ap (λ (t : List ℕ). out ++ t) (sym text);
      fits = AllWithin-more Fits xs 0 i before.fits (λ e. subst Fits (is ∙ get_or_default xs i d e lt) fit);
    }

pub all_text : {A : Type 0} (spell : A → List ℕ) (Fits : A → Type 0) (out now : List ℕ) (xs : List A) (i : ℕ) → length xs ≤ i → AreWritten spell Fits out now xs i → now ≡ out ++ flat_map spell xs
all_text spell Fits out now xs i le are = are.text ∙ ap (λ v. out ++ flat_map spell v) (take_all i xs le)

pub all_fit : {A : Type 0} (spell : A → List ℕ) (Fits : A → Type 0) (out now : List ℕ) (xs : List A) (i : ℕ) → length xs ≤ i → AreWritten spell Fits out now xs i → AllByRecursion Fits xs
all_fit spell Fits out now xs i le are = recursion_from_All Fits xs (λ k d lt. are.fits k d (omega arith) (omega arith))

-- ---- sizes

pub length-more : {A : Type 0} (spell : A → List ℕ) (xs : List A) (i : ℕ) (x d : A) → i < length xs → x ≡ get_or xs i d → length (flat_map spell (take (i + 1) xs)) ≡ length (flat_map spell (take i xs)) + length (spell x)
length-more spell xs i x d lt is =
    ap (λ v. length (flat_map spell v)) (take_more xs i d lt ∙ ap (λ v. take i xs ++ v ∷ []) (sym is)) ∙ ap length (flat_map-push spell (take i xs) x) ∙ length-append (flat_map spell (take i xs)) (spell x)

pub length-all : {A : Type 0} (spell : A → List ℕ) (xs : List A) (i : ℕ) → length xs ≤ i → length (flat_map spell (take i xs)) ≡ length (flat_map spell xs)
length-all spell xs i le = ap (λ v. length (flat_map spell v)) (take_all i xs le)
