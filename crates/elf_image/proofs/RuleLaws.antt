-- Laws of the rules.
use Rattle.std.proofs.Common.{◌≡◌, ℕ, ◌+◌, ◌<◌, ◌≤◌, List, [], ◌∷◌, ◌++◌, length, take, drop, get_or}
use Rattle.std.proofs.Common.{Option, Some, None, ◌∙◌, refl}
use Rattle.std.proofs.lemmas.List.{drop_all, drop_more, take_more}
use Rattle.elf_image.specs.declared.headers.ProgramHeader.{ProgramHeader}
use Rattle.elf_image.specs.declared.refusals.ImageRefusal.{ImageRefusal}
use Rattle.elf_image.specs.Rules.{first_of, overlap_of, overlap_after}

-- the first refusal of the front is the first of all
pub stops : (front back : List (Option ImageRefusal)) (refusal : ImageRefusal) → first_of front ≡ Some refusal
    → first_of (front ++ back) ≡ Some refusal
stops [] back refusal e = cc
stops (None ∷ front) back refusal e = stops front back refusal e
stops (Some first ∷ front) back refusal e = e

-- where the front has none, the rest decides
pub goes_on : (front back : List (Option ImageRefusal)) → first_of front ≡ None → first_of (front ++ back) ≡ first_of back
goes_on [] back e = refl
goes_on (None ∷ front) back e = goes_on front back e
goes_on (Some first ∷ front) back e = cc

-- a step over the segments, of which the one at place i has the refusal `found`
overlap_more : (xs : List ProgramHeader) (i : ℕ) (d : ProgramHeader) (found : Option ImageRefusal) → i < length xs
    → found ≡ overlap_of (take i xs) (get_or xs i d)
    → overlap_after (take i xs) (drop i xs) ≡ first_of (found ∷ overlap_after (take (i + 1) xs) (drop (i + 1) xs) ∷ [])
unfolding overlap_after
overlap_more xs i d found below at = rw (at, drop_more xs i d below, take_more xs i d below) refl

-- it overlaps an earlier one
pub overlap_found : (xs : List ProgramHeader) (i : ℕ) (d : ProgramHeader) (refusal : ImageRefusal) → i < length xs
    → Some refusal ≡ overlap_of (take i xs) (get_or xs i d) → overlap_after (take i xs) (drop i xs) ≡ Some refusal
overlap_found xs i d refusal below at = overlap_more xs i d (Some refusal) below at

-- it doesn't
pub lies_apart : (xs : List ProgramHeader) (i : ℕ) (d : ProgramHeader) → i < length xs → None ≡ overlap_of (take i xs) (get_or xs i d)
    → overlap_after (take i xs) (drop i xs) ≡ overlap_after (take (i + 1) xs) (drop (i + 1) xs)
lies_apart xs i d below at =
    overlap_more xs i d None below at ∙ only (overlap_after (take (i + 1) xs) (drop (i + 1) xs))
  where
    only : (o : Option ImageRefusal) → first_of (o ∷ []) ≡ o
    only None = refl
    only (Some refusal) = refl

-- none is left at the end
pub overlap_none : (xs : List ProgramHeader) (i : ℕ) → length xs ≤ i → overlap_after (take i xs) (drop i xs) ≡ None
unfolding overlap_after
overlap_none xs i past = rw (drop_all i xs past) refl
