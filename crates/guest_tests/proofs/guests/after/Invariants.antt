use Rattle.std.proofs.Common.{◌≡◌, length}
use Rattle.guest_memory.specs.Memory.{harts_of}
use Rattle.rv_exec.specs.Sharing.{IsMemoryOf}
use Rattle.guest_tests.proofs.guests.after.Given as goal

-- the memory stays that of the image and of so many harts, each of which has its place among the starts
abbrev pub invariant-loop-turn : goal.invariant-loop-turn
invariant-loop-turn l = record {
  harts : harts_of l.memory ≡ l.harts;
  memory : IsMemoryOf l.image l.memory;
  starts : length l.services.starts ≡ l.harts;
}
