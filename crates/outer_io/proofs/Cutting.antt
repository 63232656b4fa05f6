-- A text that is cut into pieces.
use Rattle.std.proofs.Common.{zero, suc, ◌≡◌, ◌<◌, ◌≤◌, ℕ, List, [], ◌∷◌, ◌++◌, length, take, drop, refl, sym}
use Rattle.std.proofs.Common.{◌∙◌, ap, arith, append_assoc, length-drop}
use Rattle.std.specs.List.{concat}
use Rattle.std.proofs.lemmas.List.{take-append-drop, take-append-le, drop-append-le, take_all, drop_all}
use Rattle.outer_io.specs.Pieces.{cut, first_pieces, one_piece}

first-none : (most n : ℕ) → first_pieces most n [] ≡ []
first-none zero n = refl
first-none (suc most) n = refl

-- a count that is large enough does not matter
first-enough : (most more n : ℕ) (xs : List ℕ) → length xs ≤ most → length xs ≤ more → 0 < n → first_pieces most n xs ≡ first_pieces more n xs
first-enough most more n [] a b some = first-none most n ∙ sym (first-none more n)
first-enough zero more n (x ∷ xs) a b some = absurd (omega arith)
first-enough (suc most) zero n (x ∷ xs) a b some = absurd (omega arith)
first-enough (suc most) (suc more) n (x ∷ xs) a b some =
    let shorter : length (drop n (x ∷ xs)) ≤ length xs = omega (arith, length-drop n (x ∷ xs)) in
    ap (λ rest. take n (x ∷ xs) ∷ rest) (first-enough most more n (drop n (x ∷ xs)) (omega arith) (omega arith) some)

pub cut-nil : (n : ℕ) → cut n [] ≡ []
unfolding cut
cut-nil n = refl

-- the first piece, and those of the rest
pub cut-cons : (n x : ℕ) (xs : List ℕ) → 0 < n → cut n (x ∷ xs) ≡ take n (x ∷ xs) ∷ cut n (drop n (x ∷ xs))
unfolding cut
cut-cons n x xs some =
    let shorter : length (drop n (x ∷ xs)) ≤ length xs = omega (arith, length-drop n (x ∷ xs)) in
    ap (λ rest. take n (x ∷ xs) ∷ rest) (first-enough (length xs) (length (drop n (x ∷ xs))) n (drop n (x ∷ xs)) shorter (omega arith) some)

concat-first : (most n : ℕ) (xs : List ℕ) → length xs ≤ most → 0 < n → concat (first_pieces most n xs) ≡ xs
concat-first most n [] a some = ap concat (first-none most n)
concat-first zero n (x ∷ xs) a some = absurd (omega arith)
concat-first (suc most) n (x ∷ xs) a some =
    let shorter : length (drop n (x ∷ xs)) ≤ length xs = omega (arith, length-drop n (x ∷ xs)) in
    ap (λ rest. take n (x ∷ xs) ++ rest) (concat-first most n (drop n (x ∷ xs)) (omega arith) some) ∙ take-append-drop n (x ∷ xs)

-- the pieces one after the other are the text
pub concat-cut : (n : ℕ) (text : List ℕ) → 0 < n → concat (cut n text) ≡ text
unfolding cut
concat-cut n text some = concat-first (length text) n text (omega arith) some

-- a text that is no longer than a piece
pub cut-short : (n : ℕ) (text : List ℕ) → 0 < n → length text ≤ n → cut n text ≡ one_piece text
cut-short n [] some short = cut-nil n
cut-short n (x ∷ xs) some short =
    rw (cut-cons n x xs some, take_all n (x ∷ xs) short, drop_all n (x ∷ xs) short, cut-nil n) refl

-- a text of whole pieces: what follows is cut by itself
pub record IsWhole (n : ℕ) (text : List ℕ) : Type 0 where
  pub goes_on : (more : List ℕ) → cut n (text ++ more) ≡ cut n text ++ cut n more

pub whole-none : (n : ℕ) → IsWhole n []
whole-none n = record { goes_on = λ more. ap (λ none. none ++ cut n more) (sym (cut-nil n)) }

-- one piece of n bytes, and what follows
cut-piece : (n : ℕ) (piece more : List ℕ) → 0 < n → length piece ≡ n → cut n (piece ++ more) ≡ piece ∷ cut n more
cut-piece n [] more some size = absurd (omega arith)
cut-piece n (x ∷ xs) more some size =
    let taken : take n ((x ∷ xs) ++ more) ≡ x ∷ xs = take-append-le n (x ∷ xs) more (omega arith) ∙ take_all n (x ∷ xs) (omega arith) in
    let left : drop n ((x ∷ xs) ++ more) ≡ more = drop-append-le n (x ∷ xs) more (omega arith) ∙ ap (λ none. none ++ more) (drop_all n (x ∷ xs) (omega arith)) in
    cut-cons n x (xs ++ more) some ∙ (ap (λ first. first ∷ cut n (drop n ((x ∷ xs) ++ more))) taken ∙ ap (λ rest. (x ∷ xs) ∷ cut n rest) left)

append-one : (xs : List (List ℕ)) (piece : List ℕ) (more : List (List ℕ)) → (xs ++ piece ∷ []) ++ more ≡ xs ++ piece ∷ more
append-one [] piece more = refl
append-one (x ∷ xs) piece more = ap (λ rest. x ∷ rest) (append-one xs piece more)

-- a piece of n bytes behind whole pieces
pub cut-append : (n : ℕ) (text piece : List ℕ) → 0 < n → length piece ≤ n → IsWhole n text → cut n (text ++ piece) ≡ cut n text ++ one_piece piece
cut-append n text piece some short whole =
    whole.goes_on piece ∙ ap (λ rest. cut n text ++ rest) (cut-short n piece some short)

pub one-piece-of : (piece : List ℕ) → 0 < length piece → one_piece piece ≡ piece ∷ []
one-piece-of [] some = absurd (omega arith)
one-piece-of (x ∷ xs) some = refl

pub whole-append : (n : ℕ) (text piece : List ℕ) → 0 < n → length piece ≡ n → IsWhole n text → IsWhole n (text ++ piece)
whole-append n text piece some size whole =
    let behind : cut n (text ++ piece) ≡ cut n text ++ piece ∷ [] =
    cut-append n text piece some (omega arith) whole ∙ ap (λ rest. cut n text ++ rest) (one-piece-of piece (omega arith)) in
    record {
      goes_on = λ more.
          ap (λ xs. cut n xs) (append_assoc text piece more)
          ∙ (whole.goes_on (piece ++ more)
          ∙ (ap (λ rest. cut n text ++ rest) (cut-piece n piece more some size)
          ∙ (sym (append-one (cut n text) piece (cut n more))
          ∙ ap (λ pieces. pieces ++ cut n more) (sym behind))));
    }
