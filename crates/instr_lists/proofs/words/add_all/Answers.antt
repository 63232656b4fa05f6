use Rattle.std.proofs.Common.{◌∙◌}
use Rattle.instr_lists.proofs.Adding.{same_adds, is_done}
use Rattle.instr_lists.proofs.words.add_all.Goals as goal

pub unwrap-requires : goal.unwrap-requires
unwrap-requires g c = (is_done _ _ _ _ _ c.requires.add c.hear_all.result c.hear_all.ensures.acted).0

pub returns-clause-acted : goal.returns-clause-acted
returns-clause-acted g c = λ e.
    (is_done _ _ _ _ _ c.requires.add c.hear_all.result c.hear_all.ensures.acted).1
    ∙ same_adds _ _ e _ _ c.requires.add
