use Rattle.std.proofs.Common.{◌∙◌}
use Rattle.lock_step.proofs.Places.{goes_on, goes_same}
use Rattle.lock_step.proofs.seeking.seek.Goals as goal

pub loop-next-preserved : goal.loop-next-preserved
loop-next-preserved c =
    let es = c.args.entries.now in
    let was = c.loop-next.invariant in
    record {
      at = goes_on es c.loop-next.place c.loop-next.made c.in-Some.next.now c.in-Some.ensures.entry;
      same = goes_same es c.loop-next.place c.loop-next.made c.in-Some.next.now c.in-Some.ensures.entry was.at
          c.in_default-turning.ensures.turning ∙ was.same;
    }
