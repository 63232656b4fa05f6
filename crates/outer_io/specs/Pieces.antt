-- Bytes in pieces: a text that is cut, and a row of bytes with the lengths of its pieces.
use Rattle.std.specs.Prelude.{◌≡◌, ℕ, zero, suc, ◌≤◌, List, [], ◌∷◌, length, take, drop}

-- bytes as one piece, or none where there are no bytes
abbrev pub one_piece : List ℕ → List (List ℕ)
one_piece [] = []
one_piece (x ∷ xs) = (x ∷ xs) ∷ []

-- the first pieces of n bytes, this many at most
abbrev pub first_pieces : ℕ → ℕ → List ℕ → List (List ℕ)
first_pieces zero n xs = []
first_pieces (suc most) n [] = []
first_pieces (suc most) n (x ∷ xs) = take n (x ∷ xs) ∷ first_pieces most n (drop n (x ∷ xs))

-- a text in pieces of n bytes, of which the last may be shorter and none is empty: a text has no more pieces than bytes
unfoldable pub cut : ℕ → List ℕ → List (List ℕ)
cut n text = first_pieces (length text) n text

-- bytes as pieces of these lengths
abbrev pub split : List ℕ → List ℕ → List (List ℕ)
split [] bytes = []
split (n ∷ lengths) bytes = take n bytes ∷ split lengths (drop n bytes)

-- pieces of these lengths are all of the bytes
abbrev pub AreLengthsOf : List ℕ → List ℕ → Type 0
AreLengthsOf [] bytes = bytes ≡ []
AreLengthsOf (n ∷ lengths) bytes = (n ≤ length bytes) × AreLengthsOf lengths (drop n bytes)
