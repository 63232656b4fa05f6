-- Blocks: straight-line code within one page of 4,096 bytes, at most 512 words.
use Rattle.std.specs.Prelude.{◌≡◌, ◌+◌, ◌-◌, ◌*◌, ◌/◌, ◌%◌, ◌<◌, ◌≤◌, ◌⊎◌, ℕ, zero, suc, min}
use Rattle.std.specs.Prelude.{if◌then◌else◌, Bool, true, false, Option}
use Rattle.std.specs.Prelude.{Some, None, IsSome}
use Rattle.std.specs.Option.{option_map_or}
use Rattle.flat_model.specs.declared.limits.TheConstants.{PAGE_BYTES, BLOCK_WORDS}
use Rattle.flat_model.specs.Image.{Program, word_at}
use Rattle.flat_model.specs.Instruction.{decoded, ends_block}

-- whether a block ends with this word: it is illegal, or a branch, a jump, ECALL or EBREAK
abbrev pub word_ends : ℕ → Bool
word_ends word = option_map_or ends_block (decoded word) true

-- a block ends with the word at this address
abbrev pub EndsAt : Program → ℕ → Type 0
EndsAt image address = option_map_or word_ends (word_at image address) false ≡ true

-- why a block at pc has no more than n words: it is full, its page is at its end, the next word is absent, or the
-- last one ends it
abbrev pub StopsAfter : Program → ℕ → ℕ → Type 0
StopsAfter image pc n =
    (n ≡ BLOCK_WORDS) ⊎ (pc % PAGE_BYTES + 4 * n ≡ PAGE_BYTES) ⊎ (word_at image (pc + 4 * n) ≡ None)
    ⊎ ((last : ℕ) × (n ≡ last + 1) × EndsAt image (pc + 4 * last))

-- the length of the block at pc: as many words as lie in its page, up to 512, each of them present and none but the
-- last ending it, and no fewer
pub record IsLength (image : Program) (pc n : ℕ) : Type 0 where
  pub most : n ≤ BLOCK_WORDS
  pub in_page : pc % PAGE_BYTES + 4 * n ≤ PAGE_BYTES
  pub present : (k : ℕ) → k < n → IsSome (word_at image (pc + 4 * k))
  pub goes_on : (k : ℕ) → k + 1 < n → EndsAt image (pc + 4 * k) → ⊥
  pub stops : StopsAfter image pc n

-- a block has one length
abbrev pub LengthIsOne : Type 0
LengthIsOne = (image : Program) (pc n m : ℕ) → IsLength image pc n → IsLength image pc m → n ≡ m

-- The length as a number.

-- how many words a block has from its next one on, where it has so many behind that one
abbrev pub counted : Option ℕ → ℕ → ℕ
counted None behind = 0
counted (Some word) behind = if word_ends word then 1 else suc behind

-- how many words the block has from pc on, with so many left in reach
unfoldable pub length_within : Program → ℕ → ℕ → ℕ
length_within image pc zero = 0
length_within image pc (suc left) = counted (word_at image pc) (length_within image (pc + 4) left)

-- the length of the block at pc
unfoldable pub length_of : Program → ℕ → ℕ
length_of image pc = length_within image pc (min BLOCK_WORDS ((PAGE_BYTES - pc % PAGE_BYTES) / 4))

abbrev pub LengthIsComputed : Type 0
LengthIsComputed = (image : Program) (pc : ℕ) → pc % 4 ≡ 0 → IsLength image pc (length_of image pc)
