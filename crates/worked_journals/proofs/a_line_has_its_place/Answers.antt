use Rattle.std.proofs.Common.{refl}
use Rattle.worked_journals.specs.Cases.{AreSo, IsWhole}
use Rattle.worked_journals.specs.Lines.{scripted, scripted_journal, dropped, moved, doubled, changed}
use Rattle.worked_journals.proofs.Computed.{found, so, is_whole}
use Rattle.worked_journals.proofs.a_line_has_its_place.Goals as goal

journal_so : IsWhole scripted scripted_journal
unfolding found
journal_so = is_whole scripted scripted_journal refl refl

dropped_so : AreSo scripted dropped
unfolding found
dropped_so = so scripted dropped refl refl

moved_so : AreSo scripted moved
unfolding found
moved_so = so scripted moved refl refl

doubled_so : AreSo scripted doubled
unfolding found
doubled_so = so scripted doubled refl refl

changed_so : AreSo scripted changed
unfolding found
changed_so = so scripted changed refl refl

pub returns : goal.returns
returns c = record { journal = journal_so; dropped = dropped_so; moved = moved_so; doubled = doubled_so; changed = changed_so }
