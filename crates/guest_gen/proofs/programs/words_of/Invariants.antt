use Rattle.std.proofs.Common.{take}
use Rattle.guest_gen.specs.Program.{IsCode}
use Rattle.guest_gen.proofs.programs.words_of.Given as goal

abbrev pub invariant-loop-ins : goal.invariant-loop-ins
invariant-loop-ins l = IsCode (take l.ins-index l.code) l.bytes.items
