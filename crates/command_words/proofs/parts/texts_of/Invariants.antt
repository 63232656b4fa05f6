-- What is left to look at, behind the texts that were found, gives what all parts give.
use Rattle.std.proofs.Common.{◌≡◌, ◌++◌, drop, map}
use Rattle.command_words.specs.Parts.{part_text, texts_seen, texts_of}
use Rattle.command_words.proofs.parts.texts_of.Given as goal

abbrev pub invariant-loop-part : goal.invariant-loop-part
invariant-loop-part l = texts_seen l.texts.items ++ texts_of l.option (map part_text (drop l.part-index l.parts))
    ≡ texts_of l.option (map part_text l.parts)
