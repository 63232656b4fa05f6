use Rattle.std.proofs.Common.{◌≡◌, ◌-◌, length}
use Rattle.journal_file.specs.Reading.{subs_at}
use Rattle.journal_file.proofs.Loop.{with_front}
use Rattle.journal_file.proofs.plugins.read_subs.Given as goal

abbrev pub invariant-loop : goal.invariant-loop
invariant-loop l = (with_front l.subs.items (subs_at (l.count - l.counter) l.rest) ≡ subs_at l.count l.bytes) × (length l.subs.items ≡ l.counter)
