use Rattle.event_walk.proofs.Walks.{keeps_its_sizes}
use Rattle.event_walk.proofs.walk_keeps_sizes.Goals as goal

-- src/lib.rt:14:1
pub returns : goal.returns
returns c = record { law = keeps_its_sizes }
