use Rattle.std.proofs.Common.{◌≡◌, ◌≤◌, map, take, length}
use Rattle.plug_registry.specs.Installs.{start_order}
use Rattle.run_replay.proofs.starting.starts_in.Given as goal

abbrev pub invariant-loop-place : goal.invariant-loop-place
invariant-loop-place l = record {
  there : l.place ≤ length l.entries;
  begins : take l.place l.entries ≡ map start_order (take l.place l.installs);
}
