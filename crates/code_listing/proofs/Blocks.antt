-- A block at a present word has words.
use Rattle.std.proofs.Common.{◌≡◌, ◌<◌, ◌+◌, ◌-◌, ◌/◌, ◌%◌, ℕ, suc, min, Bool, true, false, Option, Some, None}
use Rattle.std.proofs.Common.{IsSome, refl, arith}
use Rattle.std.proofs.lemmas.Bool.{false≢true}
use Rattle.flat_model.specs.Image.{Program, word_at}
use Rattle.flat_model.specs.Blocks.{word_ends, counted, length_within, length_of}

counted_some : (word : ℕ) (behind : ℕ) (ends : Bool) → word_ends word ≡ ends → 0 < counted (Some word) behind
counted_some word behind true is = rw is (omega arith)
counted_some word behind false is = rw is (omega arith)

within_some : (image : Program) (pc left word : ℕ) → word_at image pc ≡ Some word → 0 < length_within image pc (suc left)
unfolding length_within
within_some image pc left word at = rw at (counted_some word (length_within image (pc + 4) left) (word_ends word) refl)

pub some_words : (image : Program) (pc word : ℕ) → pc % 4 ≡ 0 → word_at image pc ≡ Some word → 0 < length_of image pc
unfolding length_of
some_words image pc word aligned present =
    let reach = min 512 ((4096 - pc % 4096) / 4) in
    let one : reach ≡ suc (reach - 1) = omega (arith, aligned) in
    rw one (within_some image pc (reach - 1) word present)
