use Rattle.std.proofs.Common.{◌≡◌, ◌++◌, Ok, length, map}
use Rattle.std.specs.Vec.Iter.{into_iter_items, into_iter_len}
use Rattle.host_core.proofs.running.all_ok.Given as goal

abbrev pub invariant-loop-result : goal.invariant-loop-result
invariant-loop-result g l = record {
  count : into_iter_len l.result-iterator ≡ length (into_iter_items l.result-iterator);
  all : map (λ x. Ok x) l.all.items ++ into_iter_items l.result-iterator ≡ l.fn.results.items;
}
