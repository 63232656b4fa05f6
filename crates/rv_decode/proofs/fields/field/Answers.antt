-- The mask of `len` ones keeps the remainder by 2 ^ len, which is below 2 ^ 32.
use Rattle.std.proofs.Common.{◌≡◌, ◌*◌, ◌^◌, ◌<◌, ◌%◌, ap, ◌∙◌}
use Rattle.std.proofs.Math.Nat.{mod-eq_of_lt, one-mul}
use Rattle.std.proofs.Math.Pow.{pow-lt}
use Rattle.std.proofs.lemmas.Nat.{and_mask}
use Rattle.rv_decode.proofs.fields.field.Goals as goal

pub returns-clause-value : goal.returns-clause-value
returns-clause-value c =
    let below : 2 ^ c.args.len < 2 ^ 32 = pow-lt c.requires.length in
    let small : 1 * 2 ^ c.args.len % 4294967296 ≡ 2 ^ c.args.len =
    ap (λ n. n % 4294967296) (one-mul (2 ^ c.args.len)) ∙ mod-eq_of_lt below in
    rw small (and_mask _ _)
