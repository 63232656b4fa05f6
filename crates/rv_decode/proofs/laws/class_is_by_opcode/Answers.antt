use Rattle.rv_decode.proofs.ClassLaw.{class_of-table}
use Rattle.rv_decode.proofs.laws.class_is_by_opcode.Goals as goal

pub returns : goal.returns
returns c = class_of-table
