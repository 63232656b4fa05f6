use Rattle.std.proofs.Common.{arith}
use Rattle.journal_file.specs.Spelling.{sub}
use Rattle.journal_file.proofs.Put.{length-more}
use Rattle.journal_file.proofs.writing.subs_size.Goals as goal

pub loop-each-preserved : goal.loop-each-preserved
loop-each-preserved c =
    let more = length-more sub c.args.subs.now c.loop-each.each-index c.each-item.result _ c.loop-each-test.true c.each-item.is in
    (omega (arith, more, c.loop-each.invariant.0, c.sub_size-size.ensures.size), omega (arith, c.loop-each.invariant.1, c.sub_size-size.ensures.small))
