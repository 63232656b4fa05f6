use Rattle.journal_file.specs.Spelling.{sub, FitsSub}
use Rattle.journal_file.proofs.Put.{AreWritten-none, AreWritten-more, all_text, all_fit}
use Rattle.journal_file.proofs.writing.put_subs.Goals as goal

pub loop-each-init : goal.loop-each-init
loop-each-init c = AreWritten-none sub FitsSub c.args.out.now.items c.args.subs.now

pub loop-each-preserved : goal.loop-each-preserved
loop-each-preserved c = AreWritten-more sub FitsSub c.args.out.now.items c.loop-each.out.items c.put_sub.new.out.items c.args.subs.now c.loop-each.each-index c.each-item.result _ c.loop-each-test.true c.each-item.is c.in_ok-put_sub.ensures.spelled c.in_ok-put_sub.ensures.fits c.loop-each.invariant

pub returns-clause-spelled : goal.returns-clause-spelled
returns-clause-spelled c = all_text sub FitsSub c.args.out.now.items c.loop-each.out.items c.args.subs.now c.loop-each.each-index c.loop-each-test.false c.loop-each.invariant

pub returns-clause-fits : goal.returns-clause-fits
returns-clause-fits c = all_fit sub FitsSub c.args.out.now.items c.loop-each.out.items c.args.subs.now c.loop-each.each-index c.loop-each-test.false c.loop-each.invariant
