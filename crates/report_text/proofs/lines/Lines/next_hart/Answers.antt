use Rattle.std.proofs.Common.{◌≡◌, ◌<◌, ◌≤◌, ◌∙◌, ◌++◌, ap, arith}
use Rattle.std.proofs.lemmas.Result.{IfOk-weaker}
use Rattle.report_text.specs.Places.{rest_at, sets_from, harts_from, plugins_from, Goes}
use Rattle.report_text.proofs.Coming.{harts_end}
use Rattle.report_text.proofs.Eaches.{goes_as}
use Rattle.report_text.proofs.Going.{hart_goes}
use Rattle.report_text.proofs.LeftHarts.{group_is}
use Rattle.report_text.proofs.lines.Lines.next_hart.Goals as goal

pub returns-in_ok-put_bytes-clause-goes : goal.returns-in_ok-put_bytes-clause-goes
returns-in_ok-put_bytes-clause-goes g c =
    let s = c.args.state.now in
    let low : c.args.hart < s.task.machine.harts =
    omega (arith, c.harts.ensures.harts, ap (λ t. t.machine.harts) c.task.ensures.task) in
    hart_goes s c.args.out.now.items c.put_bytes.new.out.items c.args.hart c.group.result c.left_hart.result.now c.in_ok-line.line.items low
    (c.group.ensures.group ∙ group_is s c.task.ensures.order) c.left_hart.ensures.hart c.in_ok-line.ensures.line
    (c.in_ok-put_bytes.ensures.ok ∙ ap (λ xs. c.args.out.now.items ++ xs) c.as_slice.ensures.value)

pub returns-else-hart-harts-clause-goes : goal.returns-else-hart-harts-clause-goes
returns-else-hart-harts-clause-goes g c =
    let s = c.args.state.now in
    let over : s.task.machine.harts ≤ c.args.hart =
    omega (arith, c.harts.ensures.harts, ap (λ t. t.machine.harts) c.task.ensures.task) in
    IfOk-weaker c.next_set.result
    (λ more. Goes (sets_from s 1 0) c.args.out.now.items c.next_set.new.out.items
    (rest_at s c.next_set.new.self.place c.next_set.new.self.name c.next_set.new.self.rows.items) more) _
    (λ more goes. goes_as (harts_from s c.args.hart ++ plugins_from s 1) (sets_from s 1 0) c.args.out.now.items c.next_set.new.out.items
    (rest_at s c.next_set.new.self.place c.next_set.new.self.name c.next_set.new.self.rows.items) more (harts_end s c.args.hart over) goes)
    c.next_set.ensures.goes
