use Rattle.std.proofs.Common.{◌≡◌, ℕ, ◌+◌, ◌<◌, true, map, length, get_or}
use Rattle.flat_model.specs.Permission.{Readable, span_of, may_byte}
use Rattle.flat_model.specs.World.{opening_bytes}
use Rattle.guest_memory.proofs.regions.load_across.Given as goal

abbrev pub invariant-loop-k : goal.invariant-loop-k
invariant-loop-k l = record {
  whole : length l.raw ≡ 8;
  permitted : (j : ℕ) → j < l.k → may_byte (map span_of l.regions) Readable (l.addr + j) ≡ true;
  read : (j : ℕ) → j < l.k → get_or l.raw j 0 ≡ opening_bytes l.regions (l.addr + j);
}
