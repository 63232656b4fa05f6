use Rattle.std.proofs.Common.{◌≡◌, length}
use Rattle.guest_memory.specs.Memory.{harts_of}
use Rattle.rv_exec.specs.Sharing.{IsMemoryOf}
use Rattle.guest_tests.proofs.guests.steps.Given as goal

abbrev pub invariant-loop : goal.invariant-loop
invariant-loop l = record {
  harts : harts_of l.memory ≡ harts_of l.initial.memory;
  memory : IsMemoryOf l.image l.memory;
  starts : length l.services.starts ≡ length l.initial.services.starts;
}
