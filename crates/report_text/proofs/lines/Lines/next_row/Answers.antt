use Rattle.std.proofs.Common.{◌≡◌, ◌<◌, ◌≤◌, ◌+◌, ◌∙◌, ◌++◌, ap, arith, length, drop}
use Rattle.std.proofs.lemmas.Result.{IfOk-weaker}
use Rattle.report_text.specs.Places.{rest_at, subs_from, Goes}
use Rattle.report_text.specs.Report.{row_texts}
use Rattle.report_text.specs.RowLines.{row_line}
use Rattle.report_text.proofs.Coming.{rows_end}
use Rattle.report_text.proofs.Eaches.{goes_as}
use Rattle.report_text.proofs.Going.{row_goes}
use Rattle.report_text.proofs.lines.Lines.next_row.Goals as goal

pub returns-in_ok-put_row-clause-goes : goal.returns-in_ok-put_row-clause-goes
returns-in_ok-put_row-clause-goes g c =
    let below : c.args.row < length c.args.self.now.rows.items = omega (arith, c.len.ensures) in
    row_goes c.args.state.now c.args.out.now.items c.put_row.new.out.items c.args.self.now.name c.args.self.now.rows.items c.args.row
    c.args.plugin c.args.set c.args.sub c.index.result.now below
    (c.in_ok-put_row.ensures.line ∙ ap (λ r. c.args.out.now.items ++ row_line c.args.self.now.name r) c.index.ensures)

pub returns-else-row-len-clause-goes : goal.returns-else-row-len-clause-goes
returns-else-row-len-clause-goes g c =
    let s = c.args.state.now in
    let name = c.args.self.now.name in
    let rows = c.args.self.now.rows.items in
    let over : length rows ≤ c.args.row = omega (arith, c.len.ensures) in
    IfOk-weaker c.next_sub.result
    (λ more. Goes (subs_from s c.args.plugin c.args.set (c.args.sub + 1)) c.args.out.now.items c.next_sub.new.out.items
    (rest_at s c.next_sub.new.self.place c.next_sub.new.self.name c.next_sub.new.self.rows.items) more) _
    (λ more goes. goes_as (row_texts name (drop c.args.row rows) ++ subs_from s c.args.plugin c.args.set (c.args.sub + 1))
    (subs_from s c.args.plugin c.args.set (c.args.sub + 1)) c.args.out.now.items c.next_sub.new.out.items
    (rest_at s c.next_sub.new.self.place c.next_sub.new.self.name c.next_sub.new.self.rows.items) more
    (rows_end s name rows c.args.row c.args.plugin c.args.set c.args.sub over) goes)
    (rw c.from.ensures at c.next_sub.ensures.goes)
