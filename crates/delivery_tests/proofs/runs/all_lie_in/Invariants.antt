use Rattle.std.proofs.Common.{ℕ, ◌<◌, slice_index_or}
use Rattle.flat_model.specs.declared.events.Event.{Event}
use Rattle.instr_lists.specs.Sorts.{LiesIn}
use Rattle.delivery_tests.proofs.runs.all_lie_in.Given as goal

abbrev pub invariant-loop-e : goal.invariant-loop-e
invariant-loop-e l = (k : ℕ) (d : Event) → k < l.e-index → LiesIn l.block (slice_index_or l.raw k d).what
