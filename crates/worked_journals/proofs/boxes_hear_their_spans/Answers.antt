use Rattle.std.proofs.Common.{refl}
use Rattle.worked_journals.specs.Cases.{IsWhole}
use Rattle.worked_journals.specs.Hears.{HearsUpToTheAsk, HearsByTheScript, HearsAccesses, adding_run, added_journal, CountsPerHart, AsksFirst}
use Rattle.worked_journals.proofs.Computed.{found, is_whole}
use Rattle.worked_journals.proofs.boxes_hear_their_spans.Goals as goal

up_to_the_ask_so : HearsUpToTheAsk
unfolding found
up_to_the_ask_so = record { first_hart = refl; second_hart = refl }

by_the_script_so : HearsByTheScript
unfolding found
by_the_script_so = record { inits = refl; blocks = refl; insns = refl; nothing_else = refl; later_blocks = refl; later_alone = refl }

accesses_so : HearsAccesses
unfolding found
accesses_so = record { read = refl; written = refl }

added_so : IsWhole adding_run added_journal
unfolding found
added_so = is_whole adding_run added_journal refl refl

per_hart_so : CountsPerHart
unfolding found
per_hart_so = record { first_hart = refl; second_hart = refl }

asks_first_so : AsksFirst
unfolding found
asks_first_so = record { second_sub = refl; first_sub = refl; since = refl; not_yet = refl; waits = refl; ended = refl }

pub returns : goal.returns
returns c = record {
  up_to_the_ask = up_to_the_ask_so;
  by_the_script = by_the_script_so;
  accesses = accesses_so;
  added = added_so;
  per_hart = per_hart_so;
  asks_first = asks_first_so;
}
