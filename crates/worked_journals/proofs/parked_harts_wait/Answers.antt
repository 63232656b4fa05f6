use Rattle.std.proofs.Common.{refl}
use Rattle.worked_journals.specs.Cases.{AreSo}
use Rattle.worked_journals.specs.Parks.{waiting, waiting_cases, starting, starting_cases}
use Rattle.worked_journals.proofs.Computed.{found, so}
use Rattle.worked_journals.proofs.parked_harts_wait.Goals as goal

waiting_so : AreSo waiting waiting_cases
unfolding found
waiting_so = so waiting waiting_cases refl refl

starting_so : AreSo starting starting_cases
unfolding found
starting_so = so starting starting_cases refl refl

pub returns : goal.returns
returns c = record { waiting = waiting_so; starting = starting_so }
