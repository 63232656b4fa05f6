-- The function's answer is the table's.
use Rattle.std.proofs.Common.{◌∙◌, ap}
use Rattle.flat_model.specs.Instruction.{decoded, decoded_as}
use Rattle.rv_decode.proofs.TableLaw.{found_in_table}
use Rattle.rv_decode.proofs.decoding.decode.Goals as goal

pub returns-clause-table : goal.returns-clause-table
unfolding decoded
returns-clause-table c =
    found_in_table c.args.word c.decoded_as.result
    (c.decoded_as.ensures.value ∙ ap (λ n. decoded_as n c.args.word) c.field.ensures.value)
