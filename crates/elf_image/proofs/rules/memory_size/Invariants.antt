use Rattle.std.proofs.Common.{◌≡◌, ◌*◌, ◌^◌, ◌≤◌, take, sum_by}
use Rattle.elf_image.proofs.rules.memory_size.Given as goal

abbrev pub invariant-loop-header : goal.invariant-loop-header
invariant-loop-header l = record {
  bytes : l.bytes ≡ sum_by (λ h. h.memory_size) (take l.header-index l.loads);
  bound : l.bytes ≤ l.header-index * 2 ^ 64;
}
