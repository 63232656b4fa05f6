use Rattle.std.proofs.Common.{◌∙◌, ℕ, ap, arith}
use Rattle.std.proofs.lemmas.List.FromFn.{sum_by-map-range_with_len_more}
use Rattle.flat_model.specs.World.{HartState}
use Rattle.flat_model.specs.Worlds.{hart_of}
use Rattle.host_cli.proofs.summary.all_made.Goals as goal

pub loop-no-preserved : goal.loop-no-preserved
loop-no-preserved g c =
    let s = c.args.state.now in
    let n = c.loop-no.no in
    let here = c.left_hart-hart.ensures.hart in
    let more = λ (g : HartState → ℕ). sum_by-map-range_with_len_more g (hart_of s.task.machine s.task.mode s.past) 0 n n (omega arith) in (
      cc (more (λ h. h.steps), c.loop-no.invariant.0, c.from-steps.ensures, ap (λ (h : HartState). h.steps) (c.hart.view_is ∙ here)),
      cc (more (λ h. h.blocks), c.loop-no.invariant.1, c.from-blocks.ensures, ap (λ (h : HartState). h.blocks) (c.hart.view_is ∙ here)),
      omega (arith, c.loop-no.invariant.2, c.from-steps.ensures),
      omega (arith, c.loop-no.invariant.3, c.from-blocks.ensures),
    )
