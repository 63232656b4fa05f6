use Rattle.report_text.specs.Report.{set_in}
use Rattle.report_text.proofs.Coming.{called_within}
use Rattle.report_text.proofs.Going.{sub_goes}
use Rattle.report_text.proofs.lines.Lines.next_sub.Goals as goal

pub returns-clause-goes : goal.returns-clause-goes
returns-clause-goes g c =
    sub_goes c.args.state.now c.args.out.now.items c.put_sub.new.out.items c.args.plugin c.args.set c.args.from c.in-Some.sub c.in-Some.kind
    c.in_ok-rows.rows.items
    (called_within (set_in c.args.state.now.registry.table c.args.plugin c.args.set) c.in-Some.sub c.in-Some.kind c.in-Some.ensures.found.0)
    c.in-Some.ensures.found.1 c.in-Some.ensures.found.0 c.in_ok-rows.ensures.rows c.in_ok-put_sub.ensures.line
