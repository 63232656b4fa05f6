use Rattle.std.proofs.Common.{◌≡◌, All}
use Rattle.std.specs.Prelude.{vec_len}
use Rattle.host_state.proofs.arrivals.room_for_row.Given as goal

abbrev pub invariant-loop-hart : goal.invariant-loop-hart
invariant-loop-hart g l = record {
  specs : All (λ place. place.spec ≡ l.spec) l.places.items;
  count : vec_len l.places ≡ l._hart;
}
