use Rattle.std.proofs.Common.{List, ap, sym, subst}
use Rattle.flat_model.specs.declared.journals.Item.{Item}
use Rattle.rv_exec.specs.Logged.{LogState}
use Rattle.lock_step.specs.Kept.{IsKept}
use Rattle.lock_step.proofs.Keeping.{first_kept}
use Rattle.lock_step.proofs.lone_runs.LoneRun.new.Goals as goal

pub invariant_of-result : goal.invariant_of-result
invariant_of-result c =
    subst (λ (past : List Item). IsKept (record { image = c.args.image.now; harts = c.args.harts; limit = c.args.limit }) c.args.mode past
    c.in_ok-first_harts.field-0.items c.in_ok-new.field-0 c.in_ok-new-2.field-0 c.in_ok-new-3.field-0 c.in_ok-new-4.field-0)
    (sym c.new-5.ensures)
    (first_kept c.args.image.now c.args.harts c.args.limit c.args.mode c.in_ok-first_harts.field-0.items c.in_ok-new.field-0
    c.in_ok-new-2.field-0 c.in_ok-new-3.field-0 c.in_ok-new-4.field-0 c.requires.some_step c.in_ok-first_harts.ensures.first
    c.in_ok-new.ensures.opening c.in_ok-new-2.ensures.opening c.in_ok-new-3.ensures.fresh
    (ap (λ (log : LogState). log.kept) c.in_ok-new-4.ensures.empty))
