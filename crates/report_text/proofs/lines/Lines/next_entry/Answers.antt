use Rattle.std.proofs.Common.{◌≡◌, ◌<◌, ◌≤◌, ap, arith}
use Rattle.std.proofs.lemmas.Result.{IfOk-weaker}
use Rattle.report_text.specs.Places.{rest_at, subs_from, entries_from, Goes}
use Rattle.report_text.specs.Report.{set_in}
use Rattle.report_text.proofs.Coming.{entries_end}
use Rattle.report_text.proofs.Eaches.{goes_as}
use Rattle.report_text.proofs.Going.{entry_goes}
use Rattle.report_text.proofs.Reporting.{sum_is}
use Rattle.report_text.proofs.lines.Lines.next_entry.Goals as goal

pub returns-in_ok-put_entry-clause-goes : goal.returns-in_ok-put_entry-clause-goes
returns-in_ok-put_entry-clause-goes g c =
    let s = c.args.state.now in
    let below : c.args.entry < (set_in s.registry.table c.args.plugin c.args.set).entries =
    omega (arith, ap (λ spec. spec.entries) c.set_of.ensures.set) in
    entry_goes s c.args.out.now.items c.put_entry.new.out.items c.args.plugin c.args.set c.args.entry c.sum.result below
    (sum_is s c.args.plugin c.args.set c.args.entry c.number_of.result c.sum.result c.number_of.ensures.number c.sum.ensures.sum)
    c.in_ok-put_entry.ensures.line

pub returns-else-entry-set_of-clause-goes : goal.returns-else-entry-set_of-clause-goes
returns-else-entry-set_of-clause-goes g c =
    let s = c.args.state.now in
    let over : (set_in s.registry.table c.args.plugin c.args.set).entries ≤ c.args.entry =
    omega (arith, ap (λ spec. spec.entries) c.set_of.ensures.set) in
    IfOk-weaker c.next_sub.result
    (λ more. Goes (subs_from s c.args.plugin c.args.set 0) c.args.out.now.items c.next_sub.new.out.items
    (rest_at s c.next_sub.new.self.place c.next_sub.new.self.name c.next_sub.new.self.rows.items) more) _
    (λ more goes. goes_as (entries_from s c.args.plugin c.args.set c.args.entry) (subs_from s c.args.plugin c.args.set 0)
    c.args.out.now.items c.next_sub.new.out.items
    (rest_at s c.next_sub.new.self.place c.next_sub.new.self.name c.next_sub.new.self.rows.items) more
    (entries_end s c.args.plugin c.args.set c.args.entry over) goes)
    c.next_sub.ensures.goes
