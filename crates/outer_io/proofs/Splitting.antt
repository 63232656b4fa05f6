-- Bytes as pieces of given lengths.
use Rattle.std.proofs.Common.{◌≡◌, ◌≤◌, ℕ, List, [], ◌∷◌, ◌++◌, length, take, drop, map, refl, sym, ◌∙◌, ap}
use Rattle.std.proofs.Common.{arith, length-append}
use Rattle.std.specs.List.{concat}
use Rattle.std.proofs.lemmas.List.{take-append-drop, length-take-le, take-append-le, drop-append-le, take_all, drop_all}
use Rattle.outer_io.specs.Pieces.{split, AreLengthsOf}

-- the pieces one after the other are the bytes
pub concat-split : (lengths bytes : List ℕ) → AreLengthsOf lengths bytes → concat (split lengths bytes) ≡ bytes
concat-split [] bytes fits = sym fits
concat-split (n ∷ lengths) bytes fits =
    ap (λ rest. take n bytes ++ rest) (concat-split lengths (drop n bytes) fits.1) ∙ take-append-drop n bytes

pub length-split : (lengths bytes : List ℕ) → AreLengthsOf lengths bytes → map (λ piece. length piece) (split lengths bytes) ≡ lengths
length-split [] bytes fits = refl
length-split (n ∷ lengths) bytes fits =
    ap (λ m. m ∷ map (λ piece. length piece) (split lengths (drop n bytes))) (length-take-le n bytes fits.0)
    ∙ ap (λ rest. n ∷ rest) (length-split lengths (drop n bytes) fits.1)

-- one more piece
pub split-append : (lengths bytes more : List ℕ) → AreLengthsOf lengths bytes → split (lengths ++ length more ∷ []) (bytes ++ more) ≡ split lengths bytes ++ more ∷ []
split-append [] bytes more fits = rw fits (ap (λ piece. piece ∷ []) (take_all (length more) more (omega arith)))
split-append (n ∷ lengths) bytes more fits =
    rw (take-append-le n bytes more fits.0, drop-append-le n bytes more fits.0) (ap (λ rest. take n bytes ∷ rest) (split-append lengths (drop n bytes) more fits.1))

pub fits-append : (lengths bytes more : List ℕ) → AreLengthsOf lengths bytes → AreLengthsOf (lengths ++ length more ∷ []) (bytes ++ more)
fits-append [] bytes more fits = rw fits (omega arith, drop_all (length more) more (omega arith))
fits-append (n ∷ lengths) bytes more fits =
    let within : n ≤ length (bytes ++ more) = let h : n ≤ length bytes = fits.0 in omega (arith, length-append bytes more) in
    (within, rw (drop-append-le n bytes more fits.0) (fits-append lengths (drop n bytes) more fits.1))
