-- Instructions as bytes.
use Rattle.std.proofs.Common.{◌≡◌, ◌∙◌, ◌<◌, ◌≤◌, ◌+◌, ◌^◌, ◌%◌, ℕ, List, [], ◌∷◌, ◌++◌, length, map, take, get_or, Some}
use Rattle.std.proofs.Common.{refl, sym, ap, subst, arith, All}
use Rattle.std.proofs.Common.{append_assoc, append-nil}
use Rattle.std.specs.List.{flat_map}
use Rattle.std.proofs.lemmas.List.{map-append, take_more}
use Rattle.std.proofs.lemmas.List.Elements.{All-nil, All-cons, All-append, All-head, All-tail}
use Rattle.flat_model.specs.declared.instructions.Ins.{Ins}
use Rattle.flat_model.specs.Instruction.{decoded}
use Rattle.guest_gen.specs.Program.{u32_bytes, IsCode, IsProgram, OneProgram}

flat_map-append : (f : ℕ → List ℕ) (xs ys : List ℕ) → flat_map f (xs ++ ys) ≡ flat_map f xs ++ flat_map f ys
flat_map-append f [] ys = refl
flat_map-append f (x ∷ xs) ys = ap (λ zs. f x ++ zs) (flat_map-append f xs ys) ∙ sym (append_assoc (f x) (flat_map f xs) (flat_map f ys))

pub code_none : IsCode [] []
code_none = record { words = []; decode = refl; fit = All-nil (λ word. word < 2 ^ 32); spelled = refl }

pub code_more : (code : List Ins) (ins : Ins) (bytes : List ℕ) (word : ℕ) → IsCode code bytes → decoded word ≡ Some ins → word < 2 ^ 32
    → IsCode (code ++ ins ∷ []) (bytes ++ u32_bytes word)
code_more code ins bytes word is one fits = record {
  words = is.words ++ word ∷ [];
  decode =
      map-append decoded is.words (word ∷ [])
      ∙ (ap (λ xs. xs ++ decoded word ∷ []) is.decode
      ∙ (ap (λ d. map Some code ++ d ∷ []) one ∙ sym (map-append Some code (ins ∷ []))));
  fit = All-append (λ w. w < 2 ^ 32) is.words (word ∷ []) is.fit (All-cons (λ w. w < 2 ^ 32) word [] fits (All-nil (λ w. w < 2 ^ 32)));
  spelled =
      ap (λ xs. xs ++ u32_bytes word) is.spelled
      ∙ (ap (λ xs. flat_map u32_bytes is.words ++ xs) (sym (append-nil (u32_bytes word)))
      ∙ sym (flat_map-append u32_bytes is.words (word ∷ [])));
}

-- the same at a loop's step
pub code_next : (code : List Ins) (i : ℕ) (d : Ins) (bytes : List ℕ) (word : ℕ) → i < length code
    → IsCode (take i code) bytes → decoded word ≡ Some (get_or code i d) → word < 2 ^ 32
    → IsCode (take (i + 1) code) (bytes ++ u32_bytes word)
code_next code i d bytes word within is one fits =
    subst (λ xs. IsCode xs (bytes ++ u32_bytes word)) (sym (take_more code i d within))
    (code_more (take i code) (get_or code i d) bytes word is one fits)
