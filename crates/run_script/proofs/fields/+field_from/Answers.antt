-- The first field stands before the first space, and the others after it.
use Rattle.std.proofs.Common.{◌∙◌, ◌+◌, ◌-◌, length, Some, sym, ap, refl, slice_get, option_map}
use Rattle.run_script.specs.Bytes.{space, pieces}
use Rattle.run_script.specs.Fields.{placed_from}
use Rattle.run_script.proofs.FieldPlaces.{first_one, none_later, some_later}
use Rattle.run_script.proofs.fields.+field_from.Goals as goal

pub returns-then-k-eq0-clause-value : goal.returns-then-k-eq0-clause-value
returns-then-k-eq0-clause-value t c =
    ap (λ front. Some (c.args.column, front)) c.cut.ensures.front
    ∙ (sym (first_one c.args.column c.args.text.now _ refl)
    ∙ ap (slice_get (placed_from c.args.column (pieces space c.args.text.now))) (sym c.if-k-eq0.true))

pub returns-in-None-clause-value : goal.returns-in-None-clause-value
returns-in-None-clause-value t c =
    sym (none_later c.args.column c.args.k c.args.text.now (sym c.cut.ensures.back ∙ ap (option_map (λ r. r.now)) c.in-None.is) c.if-k-eq0.false)

pub returns-in-Some-clause-value : goal.returns-in-Some-clause-value
returns-in-Some-clause-value t c =
    c.field_from.ensures.value
    ∙ (ap (λ front. slice_get (placed_from (c.args.column + length front + 1) (pieces space c.in-Some.rest.now)) (c.args.k - 1)) c.cut.ensures.front
    ∙ sym (some_later c.args.column c.args.k c.args.text.now c.in-Some.rest.now
    (sym c.cut.ensures.back ∙ ap (option_map (λ r. r.now)) c.in-Some.is) c.if-k-eq0.false))
