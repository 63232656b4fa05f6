-- A block of code and what each of its words is. How long a block is stands in flat_model's `specs/Blocks.antt`.
use Rattle.std.specs.Prelude.{◌≡◌, ◌+◌, ◌*◌, ◌<◌, ℕ, List, length, slice_index_or, Some, IfSome}
use Rattle.flat_model.specs.Image.{Program, word_at}
use Rattle.flat_model.specs.Instruction.{decoded, word_class, IsInRange}
use Rattle.flat_model.specs.Blocks.{IsLength, length_of}
use Rattle.block_finder.specs.declared.blocks.Site.{Site}

-- a word at its address, with its instruction and its class
pub record IsSite (image : Program) (pc : ℕ) (site : Site) : Type 0 where
  pub place : site.pc ≡ pc
  pub present : word_at image pc ≡ Some site.word
  pub decodes : site.ins ≡ decoded site.word
  pub in_range : IfSome site.ins IsInRange
  pub class : site.class ≡ word_class site.word

-- words from pc on, each four bytes behind the one before it
abbrev pub AreSites : Program → ℕ → List Site → Type 0
AreSites image pc sites = (k : ℕ) (other : Site) → k < length sites → IsSite image (pc + 4 * k) (slice_index_or sites k other)

-- a block: where it begins, how many words it has, and the words
pub record Stretch : Type 0 where
  pub pc : ℕ
  pub n : ℕ
  pub sites : List Site

-- the block at pc
pub record IsBlock (image : Program) (pc : ℕ) (block : Stretch) : Type 0 where
  pub place : block.pc ≡ pc
  pub long : IsLength image pc block.n
  pub computed : block.n ≡ length_of image pc
  pub all : length block.sites ≡ block.n
  pub sites : AreSites image pc block.sites

-- no two blocks are at one address
abbrev pub BlockIsOne : Type 0
BlockIsOne = (image : Program) (pc : ℕ) (a b : Stretch) → IsBlock image pc a → IsBlock image pc b → a ≡ b
