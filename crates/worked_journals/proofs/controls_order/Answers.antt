use Rattle.std.proofs.Common.{refl}
use Rattle.worked_journals.specs.Cases.{AreSo}
use Rattle.worked_journals.specs.Controls.{ordered, ordered_cases}
use Rattle.worked_journals.proofs.Computed.{found, so}
use Rattle.worked_journals.proofs.controls_order.Goals as goal

ordered_so : AreSo ordered ordered_cases
unfolding found
ordered_so = so ordered ordered_cases refl refl

pub returns : goal.returns
returns c = record { ordered = ordered_so }
