use Rattle.std.proofs.Common.{◌≡◌, take}
use Rattle.run_replay.proofs.same_sets.same_subs.Given as goal

abbrev pub invariant-loop-place : goal.invariant-loop-place
invariant-loop-place l = take l.place l.one ≡ take l.place l.other
