use Rattle.std.proofs.Common.{◌≡◌, ◌==◌, map, take}
use Rattle.std.specs.Prelude.{filter}
use Rattle.watcher_api.specs.Tallies.{rows}
use Rattle.host_state.proofs.tallying.told_tally.Given as goal

abbrev pub invariant-loop-parked : goal.invariant-loop-parked
invariant-loop-parked g l = map (λ v. v.items) l.lists.items
    ≡ map (λ b. rows b.watcher.kind b.watcher.events) (filter (λ b. b.sub == l.sub) (take l.parked-index l.boxes))
