-- A word in the table decodes to its instruction, and no other word does.
use Rattle.rv_decode.proofs.TableLaw.{decoded-row}
use Rattle.rv_decode.proofs.Uniqueness.{only_word}
use Rattle.rv_decode.proofs.encoding.encode.Goals as goal

pub returns-clause-decodes : goal.returns-clause-decodes
returns-clause-decodes c = decoded-row _ _ c.word_of.ensures

pub returns-clause-only_word : goal.returns-clause-only_word
returns-clause-only_word c = only_word _ _ c.word_of.type_inv c.word_of.ensures
