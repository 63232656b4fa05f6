use Rattle.rv_decode.proofs.Uniqueness.{one_word}
use Rattle.rv_decode.proofs.laws.no_instruction_is_two.Goals as goal

pub returns : goal.returns
returns c = one_word
