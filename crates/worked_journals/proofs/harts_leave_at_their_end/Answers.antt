use Rattle.std.proofs.Common.{refl}
use Rattle.worked_journals.specs.Cases.{AreSo}
use Rattle.worked_journals.specs.Ends.{alone, alone_cases, grouped, grouped_cases, counted, counted_cases, unwatched, unwatched_cases, accessing, accessing_cases}
use Rattle.worked_journals.proofs.Computed.{found, so}
use Rattle.worked_journals.proofs.harts_leave_at_their_end.Goals as goal

alone_so : AreSo alone alone_cases
unfolding found
alone_so = so alone alone_cases refl refl

grouped_so : AreSo grouped grouped_cases
unfolding found
grouped_so = so grouped grouped_cases refl refl

counted_so : AreSo counted counted_cases
unfolding found
counted_so = so counted counted_cases refl refl

unwatched_so : AreSo unwatched unwatched_cases
unfolding found
unwatched_so = so unwatched unwatched_cases refl refl

accessing_so : AreSo accessing accessing_cases
unfolding found
accessing_so = so accessing accessing_cases refl refl

pub returns : goal.returns
returns c = record { alone = alone_so; grouped = grouped_so; counted = counted_so; unwatched = unwatched_so; accessing = accessing_so }
