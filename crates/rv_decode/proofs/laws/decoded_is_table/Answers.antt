use Rattle.rv_decode.proofs.TableLaw.{decoded-table}
use Rattle.rv_decode.proofs.laws.decoded_is_table.Goals as goal

pub returns : goal.returns
returns c = decoded-table
