use Rattle.std.proofs.Common.{arith}
use Rattle.std.proofs.lemmas.Grind.{common_steps}
use Rattle.watcher_api.proofs.Keys.{ascending_more, ascending_same}
use Rattle.watcher_api.proofs.tallies.keys_of.Goals as goal
use Rattle.watcher_api.proofs.tallies.keys_of.Goals.{in-Some+in_ok-insert, in_default}

pub loop-e-preserved : goal.loop-e-preserved
loop-e-preserved c =
    elim c.match-key_of.branch [
      | in-Some+in_ok-insert w ↦ grind (arith, common_steps, ascending_more)
      | in_default w ↦ grind (arith, common_steps, ascending_same)
    ]
