use Rattle.std.proofs.Common.{◌≡◌, ◌≤◌, length}
use Rattle.std.specs.Prelude.{All}
use Rattle.std.specs.Vec.Iter.{into_iter_items, into_iter_len}
use Rattle.run_order.specs.Laws.{park_all}
use Rattle.host_state.specs.Tables.{rows_of, AreWide}
use Rattle.host_state.proofs.leaving.park_all.Given as goal

abbrev pub invariant-loop-set : goal.invariant-loop-set
invariant-loop-set g l = record {
  count : into_iter_len l.set-iterator ≡ length (into_iter_items l.set-iterator);
  rest : park_all l.no (into_iter_items l.set-iterator) (rows_of l.rows) ≡ park_all l.no l.fn.sets.items (rows_of l.fn.rows);
  rows : All (λ a. (1 ≤ a.plugin) × (a.plugin ≤ length l.rows)) (into_iter_items l.set-iterator);
  wide : AreWide l.no (rows_of l.rows);
}
