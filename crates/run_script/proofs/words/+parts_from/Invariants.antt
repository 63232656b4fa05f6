-- Each call reads a shorter text.
use Rattle.std.proofs.Common.{length}
use Rattle.run_script.proofs.words.+parts_from.Given as goal

abbrev pub decreases-parts_from : goal.decreases-parts_from
decreases-parts_from l = length l.text.now
