use Rattle.run_controls.proofs.Staying.{closings_stay_in_hand}
use Rattle.run_controls.proofs.laws.closings_stay_in_hand.Goals as goal

pub returns : goal.returns
returns c = record { law = closings_stay_in_hand }
