use Rattle.std.proofs.Common.{◌≡◌, ◌-◌, None}
use Rattle.flat_model.specs.Log.{last_turn}
use Rattle.journal_file.specs.Reading.{entries_at}
use Rattle.journal_file.proofs.Loop.{with_front}
use Rattle.journal_file.proofs.reading.read_entries.Given as goal

abbrev pub invariant-loop-place : goal.invariant-loop-place
invariant-loop-place l = (with_front l.journal.entries (entries_at l.place l.last (l.count - l.place) l.rest) ≡ entries_at 0 None l.count l.bytes) × (l.last ≡ last_turn None l.journal.entries)
