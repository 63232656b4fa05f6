-- What is left to read, behind the parts that were read, gives what all words give.
use Rattle.std.proofs.Common.{◌≡◌, drop, map}
use Rattle.std.specs.Prelude.{string_bytes}
use Rattle.command_words.specs.Parts.{part_text, after, plain_parts}
use Rattle.command_words.proofs.parts.with_plain.Given as goal

abbrev pub invariant-loop-word : goal.invariant-loop-word
invariant-loop-word l = after (map part_text l.parts.items) (plain_parts (map string_bytes (drop l.word-index l.words)))
    ≡ after (map part_text l.fn.parts.items) (plain_parts (map string_bytes l.words))
