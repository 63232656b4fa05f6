use Rattle.std.proofs.Common.{◌≡◌, ◌+◌, ◌≤◌, ◌++◌, true, map, vec_len, vec_capacity}
use Rattle.flat_model.specs.Access.{bytes_from}
use Rattle.flat_model.specs.Permission.{may, span_of, Readable}
use Rattle.flat_model.specs.World.{opening_bytes}
use Rattle.guest_memory.proofs.regions.append.Given as goal

abbrev pub decreases-loop-left : goal.decreases-loop-left
decreases-loop-left l = l.left

abbrev pub invariant-loop-left : goal.invariant-loop-left
invariant-loop-left l = record {
  permitted : may (map span_of l.regions) Readable l.at l.left ≡ true;
  room : vec_len l.out + l.left ≤ vec_capacity l.out;
  len : vec_len l.out + l.left ≡ vec_len l.initial.out + l.n;
  capacity : vec_capacity l.initial.out ≤ vec_capacity l.out;
  bytes : l.out.items ++ bytes_from (opening_bytes l.regions) l.at l.left ≡ l.initial.out.items ++ bytes_from
      (opening_bytes l.regions) l.addr l.n;
}
