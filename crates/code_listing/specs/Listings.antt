-- The text of a listing of an image's code: for each executable region, by ascending base, a line for each word or for
-- each block, from the region's base, rounded up to a multiple of 4, to the first absent word.
use Rattle.std.specs.Prelude.{◌≡◌, ℕ, ◌+◌, ◌*◌, ◌/◌, Bool, List, [], ◌∷◌, ◌++◌, codes, map, filter, Some}
use Rattle.std.specs.Prelude.{None}
use Rattle.std.specs.Prelude.{IsPermutation}
use Rattle.std.specs.Fmt.{decimal}
use Rattle.std.specs.List.Sorted.{IsNonDecreasing}
use Rattle.flat_model.specs.Image.{Segment, Program, word_at}
use Rattle.flat_model.specs.Blocks.{length_of}
use Rattle.flat_model.specs.Texts.{hex}
use Rattle.rv_text.specs.Line.{line_of}
use Rattle.code_listing.specs.declared.listings.ListingOf.{ListingOf}
use Rattle.code_listing.specs.declared.listings.ListingOf.TheVariants.{Instructions, Blocks}

-- the first multiple of 4 at or above a number
abbrev pub round_up : ℕ → ℕ
round_up n = (n + 3) / 4 * 4

-- `0000000000010ff8 2`, and a line feed
abbrev pub block_line : ℕ → ℕ → List ℕ
block_line pc n = hex 16 pc ++ (codes " " ++ (decimal n ++ codes "\n"))

-- how many words the line at pc stands for
abbrev pub entry_words : ListingOf → Program → ℕ → ℕ
entry_words Instructions image pc = 1
entry_words Blocks image pc = length_of image pc

-- the line at pc, where this word is
abbrev pub entry_text : ListingOf → Program → ℕ → ℕ → List ℕ
entry_text Instructions image pc word = line_of pc word
entry_text Blocks image pc word = block_line pc (length_of image pc)

-- the lines from one address up to another: each begins where the words of the one before it end
pub data Lines (what : ListingOf) (image : Program) (first : ℕ) : ℕ → List ℕ → Type 0 where
  no_line : Lines what image first first []
  line_more : (pc word : ℕ) (text : List ℕ) → Lines what image first pc text
      → word_at image pc ≡ Some word
      → Lines what image first (pc + 4 * entry_words what image pc) (text ++ entry_text what image pc word)

-- the text gained the lines from one address up to another
pub record HasLines (what : ListingOf) (image : Program) (first pc : ℕ) (before now : List ℕ) : Type 0 where
  pub more : List ℕ
  pub lines : Lines what image first pc more
  pub gained : now ≡ before ++ more

-- the text gained the lines from an address to the first absent word
pub record IsRestListed (what : ListingOf) (image : Program) (first : ℕ) (before now : List ℕ) : Type 0 where
  pub last : ℕ
  pub lines : HasLines what image first last before now
  pub stops : word_at image last ≡ None

-- the bases of the executable regions
abbrev pub code_bases : List Segment → List ℕ
code_bases regions = map (λ s. s.base) (filter (λ s. s.x) regions)

-- these bases, ascending
pub record AreInOrder (bases : List ℕ) (regions : List Segment) : Type 0 where
  pub ascending : IsNonDecreasing bases
  pub all : IsPermutation (code_bases regions) bases

-- the lines from each of these bases, one after the other
pub data Lists (what : ListingOf) (image : Program) : List ℕ → List ℕ → Type 0 where
  no_list : Lists what image [] []
  list_more : (bases : List ℕ) (base : ℕ) (before after : List ℕ) → Lists what image bases before
      → IsRestListed what image (round_up base) before after
      → Lists what image (bases ++ base ∷ []) after

-- the whole listing
pub record IsListing (what : ListingOf) (image : Program) (text : List ℕ) : Type 0 where
  pub bases : List ℕ
  pub order : AreInOrder bases image.regions
  pub lists : Lists what image bases text
