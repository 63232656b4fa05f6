-- Each call reads a shorter text.
use Rattle.std.proofs.Common.{length}
use Rattle.run_script.proofs.words.+items_from.Given as goal

abbrev pub decreases-items_from : goal.decreases-items_from
decreases-items_from l = length l.text.now
