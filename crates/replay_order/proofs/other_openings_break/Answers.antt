use Rattle.replay_order.proofs.Breaking.{other_openings_break}
use Rattle.replay_order.proofs.other_openings_break.Goals as goal

pub returns : goal.returns
returns c = record { law = other_openings_break }
