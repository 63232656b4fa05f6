use Rattle.std.proofs.Common.{◌≡◌, ◌∙◌, ℕ, Option, ap, sym, arith}
use Rattle.std.specs.Prelude.{◌||◌}
use Rattle.flat_model.specs.World.{HartState}
use Rattle.flat_model.specs.declared.events.Ending.{Ending}
use Rattle.flat_model.specs.Texts.{is_fault, is_limit, is_failure, is_failed_group}
use Rattle.flat_model.specs.Worlds.{hart_of}
use Rattle.report_text.proofs.LeftHarts.{any_more, status_is}
use Rattle.report_text.proofs.statuses.status.Goals as goal

pub loop-no-preserved : goal.loop-no-preserved
loop-no-preserved g c =
    let s = c.args.state.now in
    let f : ℕ → Option Ending = λ h. (hart_of s.task.machine s.task.mode s.past h).ending in
    let here = c.left_hart.ensures.hart in (
      cc (any_more is_fault f c.loop-no.no, c.loop-no.invariant.0, c.is_fault-fault.ensures.fault, ap (λ (h : HartState). is_fault h.ending) (c.behind-state.view_is ∙ here)),
      cc (any_more is_limit f c.loop-no.no, c.loop-no.invariant.1, c.is_limit-limit.ensures.limit, ap (λ (h : HartState). is_limit h.ending) (c.behind-state.view_is ∙ here)),
      cc (any_more is_failure f c.loop-no.no, c.loop-no.invariant.2, c.is_failure-failure.ensures.failure, ap (λ (h : HartState). is_failure h.ending) (c.behind-state.view_is ∙ here)),
    )

pub returns : goal.returns
returns g c = record {
  status = c.status_by.ensures.status
      ∙ status_is c.args.state.now c.task.ensures.order c.loop-no.fault c.loop-no.limit c.loop-no.failure c.failed.result c.loop-no.no
      (omega (arith, c.harts-no-end.ensures.harts, ap (λ t. t.machine.harts) c.task.ensures.task))
      c.loop-no.invariant.0 c.loop-no.invariant.1 c.loop-no.invariant.2
      (c.failed.ensures.failed ∙ ap is_failed_group c.group.ensures.group);
}
