use Rattle.script_order.proofs.Passing.{allowed_lines_stand, refused_lines_pass, judging_ends}
use Rattle.script_order.proofs.lines_are_judged.Goals as goal

pub returns-clause-stand : goal.returns-clause-stand
returns-clause-stand c = allowed_lines_stand

pub returns-clause-pass : goal.returns-clause-pass
returns-clause-pass c = refused_lines_pass

pub returns-clause-end : goal.returns-clause-end
returns-clause-end c = judging_ends
