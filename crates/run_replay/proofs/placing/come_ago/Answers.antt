use Rattle.std.proofs.Common.{◌≡◌, ◌-◌, ◌≤◌, ◌∙◌, ℕ, List, ap, subst, arith}
use Rattle.std.specs.List.Sorted.{IsNonDecreasingBy}
use Rattle.flat_model.specs.declared.journals.Timed.{Timed}
use Rattle.flat_model.specs.Log.{log, total_steps}
use Rattle.run_journal.specs.Journal.{JournalState}
use Rattle.run_order.specs.InOrder.{Task}
use Rattle.script_order.specs.Judging.{ComeBefore}
use Rattle.run_replay.proofs.Overdue.{total_by}
use Rattle.run_replay.proofs.placing.come_ago.Goals as goal

pub overflow_sub-total : goal.overflow_sub-total
overflow_sub-total g c =
    let total = total_by c.args.state.now c.total-total.result c.task.ensures.order
    (c.total-total.ensures ∙ ap (λ (j : JournalState). total_steps (log j.entries)) c.journal.ensures.journal) in
    omega (arith, total, c.requires.within)

pub returns-clause-come : goal.returns-clause-come
returns-clause-come g c =
    let s = c.args.state.now in
    let total = total_by s c.total-total.result c.task.ensures.order
    (c.total-total.ensures ∙ ap (λ (j : JournalState). total_steps (log j.entries)) c.journal.ensures.journal) in
    subst (λ (k : ℕ). ComeBefore s.task.plan.script (k - c.args.steps) c.come_by.result) total
    (subst (λ (ts : List Timed). ComeBefore ts (c.total-total.result - c.args.steps) c.come_by.result)
    (c.script-script.ensures.script ∙ ap (λ (t : Task). t.plan.script) c.task.ensures.task) c.come_by.ensures.come)

pub returns-clause-rising : goal.returns-clause-rising
returns-clause-rising g c =
    subst (λ (t : Task). IsNonDecreasingBy (λ t. t.when) t.plan.script) c.task.ensures.task c.script-script.ensures.rising
