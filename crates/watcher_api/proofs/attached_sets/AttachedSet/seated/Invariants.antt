use Rattle.std.proofs.Common.{◌≡◌, ◌+◌, ◌≤◌, [], length, map, take, replicate, All, None}
use Rattle.std.specs.Prelude.{vec_len, vec_capacity}
use Rattle.flat_model.specs.Acts.{calling}
use Rattle.watcher_api.specs.HeldActs.{act_of, heard_of}
use Rattle.watcher_api.proofs.attached_sets.AttachedSet.seated.Given as goal

abbrev pub invariant-loop-sub : goal.invariant-loop-sub
invariant-loop-sub g l = record {
  acts : map act_of l.held.items ≡ map (λ s. s.act) (take l.sub-index l.spec.subs);
  heard : map heard_of l.held.items ≡ replicate l.sub-index [];
  count : vec_len l.held ≡ l.sub-index;
  room : length l.spec.subs ≤ vec_capacity l.held;
  blank : All (λ w. g.W.Watcher.kind_of w ≡ None) l.watchers.items;
  left : vec_len l.watchers + calling (take l.sub-index l.spec.subs) ≡ vec_len l.fn.watchers;
}
