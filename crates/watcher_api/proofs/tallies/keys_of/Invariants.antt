use Rattle.std.proofs.Common.{◌≡◌, filter_map, take}
use Rattle.watcher_api.specs.Tallies.{ascending, key_of}
use Rattle.watcher_api.proofs.tallies.keys_of.Given as goal

-- the keys of the events so far
abbrev pub invariant-loop-e : goal.invariant-loop-e
invariant-loop-e l = l.keys.keys ≡ ascending (filter_map (key_of l.name) (take l.e-index l.events))
