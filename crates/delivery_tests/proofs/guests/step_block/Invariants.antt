use Rattle.std.proofs.Common.{◌≡◌, true, length}
use Rattle.guest_memory.specs.Memory.{harts_of}
use Rattle.rv_exec.specs.Sharing.{IsMemoryOf}
use Rattle.delivery_tests.proofs.guests.step_block.Given as goal

abbrev pub invariant-loop : goal.invariant-loop
invariant-loop l = record {
  harts : harts_of l.memory ≡ 1;
  memory : IsMemoryOf l.image l.memory;
  starts : length l.services.starts ≡ 1;
  kept : l.raw.kept ≡ true;
}
