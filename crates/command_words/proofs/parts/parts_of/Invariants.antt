-- What is left to read, behind the parts that were read, gives what all words give.
use Rattle.std.proofs.Common.{◌≡◌, drop, map, None}
use Rattle.std.specs.Prelude.{string_bytes}
use Rattle.command_words.specs.Parts.{part_text, after, parts_of}
use Rattle.command_words.proofs.parts.parts_of.Given as goal

abbrev pub invariant-loop-at : goal.invariant-loop-at
invariant-loop-at l = after (map part_text l.parts.items) (parts_of l.waiting (map string_bytes (drop l.at l.words)))
    ≡ parts_of None (map string_bytes l.words)
