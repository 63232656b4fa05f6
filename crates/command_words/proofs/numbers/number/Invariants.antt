-- What is left to read gives what the whole text gives.
use Rattle.std.proofs.Common.{◌≡◌, drop}
use Rattle.command_words.specs.Numbers.{read_on}
use Rattle.command_words.proofs.numbers.number.Given as goal

abbrev pub invariant-loop-byte : goal.invariant-loop-byte
invariant-loop-byte l = read_on l.n (drop l.byte-index l.text) ≡ read_on 0 l.text
