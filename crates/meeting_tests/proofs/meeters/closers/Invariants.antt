use Rattle.std.proofs.Common.{◌≡◌, All, []}
use Rattle.std.specs.Prelude.{vec_len}
use Rattle.meeting_tests.proofs.meeters.closers.Given as goal

abbrev pub invariant-loop-made : goal.invariant-loop-made
invariant-loop-made g l = record {
  untold : All (λ c. c.kept.items ≡ []) l.closers.items;
  count : vec_len l.closers ≡ l._made;
}
