-- What is left to look at gives what all parts give.
use Rattle.std.proofs.Common.{◌≡◌, drop, map}
use Rattle.command_words.specs.Parts.{part_text}
use Rattle.command_words.specs.Commands.{all_taken}
use Rattle.command_words.proofs.commands.all_taken.Given as goal

abbrev pub invariant-loop-part : goal.invariant-loop-part
invariant-loop-part l = all_taken l.verb (map part_text (drop l.part-index l.parts)) ≡ all_taken l.verb (map part_text l.parts)
