use Rattle.std.proofs.Common.{refl}
use Rattle.worked_journals.specs.Cases.{AreSo}
use Rattle.worked_journals.specs.TwoAsks.{both, both_cases, twice, twice_cases}
use Rattle.worked_journals.proofs.Computed.{found, so}
use Rattle.worked_journals.proofs.the_first_ask_counts.Goals as goal

both_so : AreSo both both_cases
unfolding found
both_so = so both both_cases refl refl

twice_so : AreSo twice twice_cases
unfolding found
twice_so = so twice twice_cases refl refl

pub returns : goal.returns
returns c = record { both = both_so; twice = twice_so }
