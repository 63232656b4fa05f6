use Rattle.std.proofs.Common.{◌≡◌, ◌++◌, length, drop, take, rules, ◌∙◌}
use Rattle.std.specs.Int.{from_le_bytes, w64}
use Rattle.guest_memory.proofs.Numbers.{zeros, number_is, number_padded}
use Rattle.host_cli.proofs.summary.first_number.Goals as goal

pub returns : goal.returns
returns c =
    let front = take 8 c.args.bytes.now in
    let raw = front ++ drop (length front) zeros in
    let e : c.from_le_bytes.result ≡ from_le_bytes w64 raw = search rules in
    record { number = number_is raw _ e ∙ number_padded front (length front) }
