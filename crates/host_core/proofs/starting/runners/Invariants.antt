use Rattle.std.proofs.Common.{◌≡◌, ◌++◌, [], None, length, map, All}
use Rattle.std.specs.Prelude.{MatchOption}
use Rattle.std.specs.Vec.Iter.{into_iter_items, into_iter_len}
use Rattle.host_core.specs.Stages.{IsFirstSeat}
use Rattle.host_core.proofs.starting.runners.Given as goal

abbrev pub invariant-loop-pass : goal.invariant-loop-pass
invariant-loop-pass g l = record {
  count : into_iter_len l.pass-iterator ≡ length (into_iter_items l.pass-iterator);
  passes : map (λ r. r.pass) l.runners.items ++ into_iter_items l.pass-iterator ≡ l.fn.passes.items;
  seats : All (λ r. MatchOption r.seat ⊥
      (IsFirstSeat (record { image = l.image.value; harts = l.harts; limit = l.limit }) l.mode r.pass.party)) l.runners.items;
  blocks : All (λ r. r.blocks ≡ None) l.runners.items;
  lists : All (λ r. r.lists ≡ []) l.runners.items;
}
