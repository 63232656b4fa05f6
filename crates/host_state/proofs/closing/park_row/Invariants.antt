use Rattle.std.proofs.Common.{◌≡◌, ◌≤◌, ◌*◌, [], vec_len, vec_capacity}
use Rattle.std.specs.Prelude.{slice_set, option_map}
use Rattle.std.specs.Option.{option_map_or}
use Rattle.std.specs.List.{flat_map, filter_map, range_with_len}
use Rattle.run_order.specs.Sets.{boxes_back}
use Rattle.host_state.specs.Closing.{parked_column, set_at}
use Rattle.host_state.specs.Tables.{rows_of, row_at}
use Rattle.host_state.proofs.Emptying.{emptied}
use Rattle.host_state.proofs.closing.park_row.Given as goal

abbrev pub invariant-loop-hart : goal.invariant-loop-hart
invariant-loop-hart g l = record {
  waiting : rows_of l.waiting ≡ slice_set (rows_of l.fn.waiting) l.row (emptied l.hart (row_at (rows_of l.fn.waiting) l.row));
  parked : rows_of l.parked ≡ slice_set (rows_of l.fn.parked) l.row (emptied l.hart (row_at (rows_of l.fn.parked) l.row));
  boxes : l.boxes.items ≡ flat_map (λ h. option_map_or (boxes_back h)
      (set_at (λ a. a.set) (row_at (rows_of l.fn.waiting) l.row) (row_at (rows_of l.fn.parked) l.row) h) []) (range_with_len 0 l.hart);
  columns : l.columns.items ≡ filter_map (λ h. option_map (parked_column h)
      (set_at (λ a. a.set) (row_at (rows_of l.fn.waiting) l.row) (row_at (rows_of l.fn.parked) l.row) h)) (range_with_len 0 l.hart);
  box_count : vec_len l.boxes ≤ 2 * l.hart;
  column_count : vec_len l.columns ≤ l.hart;
  box_room : vec_capacity l.boxes ≡ l.fn.room.boxes;
  column_room : vec_capacity l.columns ≡ l.fn.room.columns;
}
