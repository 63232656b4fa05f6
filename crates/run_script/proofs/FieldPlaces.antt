-- A field of a line is the first one, or one of those after the first space.
use Rattle.std.proofs.Common.{◌≡◌, ◌∙◌, ◌+◌, ◌-◌, ◌≢◌, ℕ, zero, suc, List, length, Option, Some, None, refl, ap, arith, slice_get}
use Rattle.run_script.specs.Bytes.{space, before, after, pieces}
use Rattle.run_script.specs.Fields.{placed_from}
use Rattle.run_script.proofs.Cuts.{whole, first_off}

pub first_one : (column : ℕ) (text : List ℕ) (rest : Option (List ℕ)) → after space text ≡ rest
    → slice_get (placed_from column (pieces space text)) 0 ≡ Some (column, before space text)
first_one column text None e = ap (λ p. slice_get (placed_from column p) 0) (whole space text e)
first_one column text (Some rest) e = ap (λ p. slice_get (placed_from column p) 0) (first_off space text rest e)

pub none_later : (column k : ℕ) (text : List ℕ) → after space text ≡ None → k ≢ 0
    → slice_get (placed_from column (pieces space text)) k ≡ None
none_later column zero text e later = absurd (later refl)
none_later column (suc k) text e later = ap (λ p. slice_get (placed_from column p) (suc k)) (whole space text e)

pub some_later : (column k : ℕ) (text rest : List ℕ) → after space text ≡ Some rest → k ≢ 0
    → slice_get (placed_from column (pieces space text)) k
    ≡ slice_get (placed_from (column + length (before space text) + 1) (pieces space rest)) (k - 1)
some_later column zero text rest e later = absurd (later refl)
some_later column (suc k) text rest e later =
    let less : k ≡ suc k - 1 = omega arith in
    ap (λ p. slice_get (placed_from column p) (suc k)) (first_off space text rest e)
    ∙ ap (slice_get (placed_from (column + length (before space text) + 1) (pieces space rest))) less
