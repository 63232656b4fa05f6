-- The length that the loop stops at is the least that has room for the number.
use Rattle.std.proofs.Common.{◌≡◌, ◌<◌, ◌*◌, ◌^◌, arith, pow_pos}
use Rattle.number_text.proofs.Digits.{all_lost, short_by_length}
use Rattle.number_text.proofs.hexadecimal.hex_len.Goals as goal

pub returns-else-n-len-gt0-clause-digits : goal.returns-else-n-len-gt0-clause-digits
returns-else-n-len-gt0-clause-digits c =
    let known = c.loop-len.invariant in
    let len = c.loop-len.len in
    short_by_length len c.args.n known.some known.few (all_lost _ _ (pow_pos (4 * len)) c.if-n-len-gt0.false) known.least

pub returns-after-loop-len-clause-digits : goal.returns-after-loop-len-clause-digits
returns-after-loop-len-clause-digits c =
    let known = c.loop-len.invariant in
    let len = c.loop-len.len in
    let whole : len ≡ 16 = omega arith in
    let fits : c.args.n < 2 ^ (4 * len) = rw whole (omega arith) in
    short_by_length len c.args.n known.some known.few fits known.least
