use Rattle.std.proofs.Common.{◌≡◌, ◌++◌, length, drop, rules, ◌∙◌}
use Rattle.std.specs.Int.{from_le_bytes, w64}
use Rattle.guest_memory.proofs.Numbers.{zeros, number_is, number_padded}
use Rattle.guest_memory.proofs.bytes.number.Goals as goal

pub returns : goal.returns
returns c =
    let raw = c.args.bytes.now ++ drop (length c.args.bytes.now) zeros in
    let e : c.from_le_bytes.result ≡ from_le_bytes w64 (c.args.bytes.now ++ drop (length c.args.bytes.now) zeros) = search rules in
    number_is raw _ e ∙ number_padded c.args.bytes.now (length c.args.bytes.now)
