use Rattle.std.proofs.Common.{◌≡◌, All, None}
use Rattle.std.specs.Prelude.{vec_len}
use Rattle.meeting_tests.proofs.meeters.refusing_boxes.Given as goal

abbrev pub invariant-loop-made : goal.invariant-loop-made
invariant-loop-made l = record {
  blank : All (λ w. w.inner.kind ≡ None) l.boxes.items;
  count : vec_len l.boxes ≡ l._made;
}
