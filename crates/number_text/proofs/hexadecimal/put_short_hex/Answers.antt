-- As many digits are put as the number has.
use Rattle.std.proofs.Common.{◌≡◌, length, arith, ap, sym, ◌∙◌}
use Rattle.number_text.specs.ShortHex.{short_hex}
use Rattle.number_text.proofs.Digits.{length-hex}
use Rattle.number_text.proofs.hexadecimal.put_short_hex.Goals as goal

pub returns-clause-room : goal.returns-clause-room
returns-clause-room c room =
    let many : length (short_hex c.args.n) ≡ c.hex_len.result
    = ap length (sym c.hex_len.ensures.digits) ∙ length-hex c.hex_len.result c.args.n in
    c.put_hex.ensures.room (omega (arith, many, room))
