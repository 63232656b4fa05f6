use Rattle.run_rules.proofs.Keeping.{others_leave_sets_alone}
use Rattle.run_rules.proofs.others_leave_sets_alone.Goals as goal

pub returns : goal.returns
returns c = record { law = others_leave_sets_alone }
