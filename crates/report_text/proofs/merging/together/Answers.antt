use Rattle.std.proofs.Common.{arith}
use Rattle.std.proofs.lemmas.Grind.{common_steps}
use Rattle.report_text.proofs.Summing.{joined_next}
use Rattle.report_text.proofs.merging.together.Goals as goal

pub loop-tally-preserved : goal.loop-tally-preserved
loop-tally-preserved c = grind (arith, common_steps, joined_next)
