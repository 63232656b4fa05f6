-- The last digits of all sixteen are put.
use Rattle.std.proofs.Common.{◌≡◌, ◌-◌, take, drop, ap, ◌∙◌}
use Rattle.flat_model.specs.Texts.{hex}
use Rattle.number_text.proofs.Digits.{last_digits}
use Rattle.number_text.proofs.hexadecimal.put_hex.Goals as goal

pub returns-clause-ok : goal.returns-clause-ok
returns-clause-ok c =
    let len = c.args.len in
    let put : take (16 - (16 - len)) (drop (16 - len) c.digits_of-digits.result) ≡ hex len c.args.n
    = ap (λ xs. take (16 - (16 - len)) (drop (16 - len) xs)) c.digits_of-digits.ensures ∙ last_digits len c.args.n c.requires.few in
    rw put at c.put_bytes.ensures.ok
