use Rattle.std.proofs.Common.{refl}
use Rattle.worked_journals.specs.Bounds.{late, eager, IsLateIn, IsEagerIn}
use Rattle.worked_journals.proofs.Computed.{found}
use Rattle.worked_journals.proofs.turns_are_bounded.Goals as goal

late_so : IsLateIn late
unfolding found
late_so = record { wants = refl; stands = refl; comes_late = refl; is_passed = refl; goes_on = refl }

eager_so : IsEagerIn eager
unfolding found
eager_so = record { follows = refl; ends = refl }

pub returns : goal.returns
returns c = record { late = late_so; eager = eager_so }
