use Rattle.std.proofs.Common.{◌≡◌, ◌+◌, ◌*◌, ◌≤◌, map, replicate, All, Some}
use Rattle.std.specs.Prelude.{option_map, vec_len, vec_capacity}
use Rattle.flat_model.specs.Acts.{calling}
use Rattle.watcher_api.specs.Attachment.{opening}
use Rattle.host_state.proofs.arrivals.arrivals_in.Given as goal

abbrev pub invariant-loop-hart : goal.invariant-loop-hart
invariant-loop-hart g l = record {
  sets : map (option_map (λ a. a.set)) l.row.items ≡ replicate l._hart (Some (opening l.plugin l.spec));
  specs : map (option_map (λ a. a.spec)) l.row.items ≡ replicate l._hart (Some l.spec);
  count : vec_len l.row ≡ l._hart;
  room : l.harts ≤ vec_capacity l.row;
  left : vec_len l.rack.watchers + l._hart * calling l.spec.subs ≡ vec_len l.fn.rack.watchers;
  closers : l.rack.closers ≡ l.fn.rack.closers;
  places : vec_len l.places + l._hart ≡ l.harts;
  same : All (λ place. place.spec ≡ l.spec) l.places.items;
}
