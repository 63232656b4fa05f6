use Rattle.std.proofs.Common.{refl}
use Rattle.worked_journals.specs.Cases.{AreSo, IsWhole}
use Rattle.worked_journals.specs.Asks.{asking, asked_journal, dropped, moved, doubled, changed}
use Rattle.worked_journals.proofs.Computed.{found, so, is_whole}
use Rattle.worked_journals.proofs.an_ask_has_its_order.Goals as goal

journal_so : IsWhole asking asked_journal
unfolding found
journal_so = is_whole asking asked_journal refl refl

dropped_so : AreSo asking dropped
unfolding found
dropped_so = so asking dropped refl refl

moved_so : AreSo asking moved
unfolding found
moved_so = so asking moved refl refl

doubled_so : AreSo asking doubled
unfolding found
doubled_so = so asking doubled refl refl

changed_so : AreSo asking changed
unfolding found
changed_so = so asking changed refl refl

pub returns : goal.returns
returns c = record { journal = journal_so; dropped = dropped_so; moved = moved_so; doubled = doubled_so; changed = changed_so }
