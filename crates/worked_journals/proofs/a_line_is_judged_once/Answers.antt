use Rattle.std.proofs.Common.{refl}
use Rattle.worked_journals.specs.Cases.{AreSo}
use Rattle.worked_journals.specs.Lines.{early, early_cases, unprepared, unprepared_cases, meeting, meeting_cases}
use Rattle.worked_journals.proofs.Computed.{found, so}
use Rattle.worked_journals.proofs.a_line_is_judged_once.Goals as goal

early_so : AreSo early early_cases
unfolding found
early_so = so early early_cases refl refl

unprepared_so : AreSo unprepared unprepared_cases
unfolding found
unprepared_so = so unprepared unprepared_cases refl refl

meeting_so : AreSo meeting meeting_cases
unfolding found
meeting_so = so meeting meeting_cases refl refl

pub returns : goal.returns
returns c = record { early = early_so; unprepared = unprepared_so; meeting = meeting_so }
