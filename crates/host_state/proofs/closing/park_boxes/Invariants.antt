use Rattle.std.proofs.Common.{◌≡◌, ◌+◌, ◌++◌, length}
use Rattle.std.specs.Prelude.{vec_capacity}
use Rattle.std.specs.Vec.Iter.{into_iter_items, into_iter_len}
use Rattle.host_state.specs.Closing.{boxes_in}
use Rattle.host_state.proofs.closing.park_boxes.Given as goal

abbrev pub invariant-loop-act : goal.invariant-loop-act
invariant-loop-act g l = record {
  count : into_iter_len l.act-iterator ≡ length (into_iter_items l.act-iterator);
  subs : l.sub + length (into_iter_items l.act-iterator) ≡ length l.fn.held.items;
  rest : l.boxes.items ++ boxes_in l.hart l.sub (into_iter_items l.act-iterator)
      ≡ l.fn.boxes.items ++ boxes_in l.hart 0 l.fn.held.items;
  capacity : vec_capacity l.boxes ≡ vec_capacity l.fn.boxes;
}
