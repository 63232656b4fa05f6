use Rattle.journal_file.specs.Spelling.{entry, FitsEntry}
use Rattle.journal_file.proofs.Put.{AreWritten-none, AreWritten-more, all_text, all_fit}
use Rattle.journal_file.proofs.writing.put_entries.Goals as goal

pub loop-each-init : goal.loop-each-init
loop-each-init c = AreWritten-none entry FitsEntry c.args.out.now.items c.args.entries.now

pub put_entry-requires : goal.put_entry-requires
put_entry-requires c = rw c.each-item.is (c.requires c.loop-each.each-index _ c.loop-each-test.true)

pub loop-each-preserved : goal.loop-each-preserved
loop-each-preserved c = AreWritten-more entry FitsEntry c.args.out.now.items c.loop-each.out.items c.put_entry.new.out.items c.args.entries.now c.loop-each.each-index c.each-item.result _ c.loop-each-test.true c.each-item.is c.in_ok-put_entry.ensures.spelled c.in_ok-put_entry.ensures.fits c.loop-each.invariant

pub returns-clause-spelled : goal.returns-clause-spelled
returns-clause-spelled c = all_text entry FitsEntry c.args.out.now.items c.loop-each.out.items c.args.entries.now c.loop-each.each-index c.loop-each-test.false c.loop-each.invariant

pub returns-clause-fits : goal.returns-clause-fits
returns-clause-fits c = all_fit entry FitsEntry c.args.out.now.items c.loop-each.out.items c.args.entries.now c.loop-each.each-index c.loop-each-test.false c.loop-each.invariant
