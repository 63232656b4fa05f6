use Rattle.run_rules.proofs.Turns.{turns_are_legal}
use Rattle.run_rules.proofs.turns_are_legal.Goals as goal

pub returns : goal.returns
returns c = record { law = turns_are_legal }
