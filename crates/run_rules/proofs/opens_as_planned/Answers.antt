use Rattle.run_rules.proofs.Openings.{opens_as_planned, keeps_its_opening}
use Rattle.run_rules.proofs.opens_as_planned.Goals as goal

pub returns : goal.returns
returns c = record { planned = opens_as_planned; kept = keeps_its_opening }
