use Rattle.std.proofs.Common.{arith}
use Rattle.journal_file.specs.Spelling.{entry}
use Rattle.journal_file.proofs.Put.{length-more, length-all}
use Rattle.journal_file.proofs.writing.file_size.Goals as goal

pub entry_size-requires : goal.entry_size-requires
entry_size-requires c = rw c.each-item.is (c.requires c.loop-each.each-index _ c.loop-each-test.true)

pub loop-each-preserved : goal.loop-each-preserved
loop-each-preserved c =
    let more = length-more entry c.args.entries.now c.loop-each.each-index c.each-item.result _ c.loop-each-test.true c.each-item.is in
    omega (arith, more, c.loop-each.invariant, c.entry_size.ensures, c.in_ok-size.ensures)

pub returns : goal.returns
returns c = omega (arith, c.loop-each.invariant, length-all entry c.args.entries.now c.loop-each.each-index c.loop-each-test.false)
