use Rattle.std.proofs.Common.{◌≡◌, ◌∙◌, ◌++◌, ap}
use Rattle.flat_model.specs.Registry.{ending_of}
use Rattle.report_text.specs.RowLines.{set_line}
use Rattle.report_text.proofs.Eaches.{goes_as}
use Rattle.report_text.proofs.Going.{set_goes}
use Rattle.report_text.proofs.lines.Lines.next_set.Goals as goal

pub returns-clause-goes : goal.returns-clause-goes
returns-clause-goes g c =
    goes_as _ _ c.args.out.now.items c.put_set.new.out.items _ _ c.in-Some.ensures.found.1
    (set_goes c.args.state.now c.args.out.now.items c.put_set.new.out.items c.in-Some.plugin c.in-Some.set c.ending.result
    c.in-Some.ensures.found.0.there
    (c.ending.ensures ∙ ap (λ r. ending_of r.table c.in-Some.plugin c.in-Some.set) c.registry.ensures.registry)
    (c.in_ok-put_set.ensures.line
    ∙ ap (λ n. c.args.out.now.items ++ set_line c.in-Some.plugin n c.ending.result) c.number_of.ensures.number))
