use Rattle.rv_decode.proofs.TableLaw.{one_instruction}
use Rattle.rv_decode.proofs.laws.no_word_is_two.Goals as goal

pub returns : goal.returns
returns c = one_instruction
