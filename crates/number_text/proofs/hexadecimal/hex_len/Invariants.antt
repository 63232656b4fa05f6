-- Below its first digit there is no room for the number.
use Rattle.std.proofs.Common.{◌-◌, ◌*◌, ◌<◌, ◌≤◌, ◌^◌}
use Rattle.number_text.proofs.hexadecimal.hex_len.Given as goal

abbrev pub invariant-loop-len : goal.invariant-loop-len
invariant-loop-len l = record {
  some : 0 < l.len;
  few : l.len ≤ 16;
  least : 1 < l.len → 2 ^ (4 * (l.len - 1)) ≤ l.fn.n;
}

abbrev pub decreases-loop-len : goal.decreases-loop-len
decreases-loop-len l = 16 - l.len
