use Rattle.std.proofs.Common.{List, [], sym, subst}
use Rattle.flat_model.specs.declared.events.Event.{Event}
use Rattle.lock_step.specs.Kept.{LoneState}
use Rattle.lock_step.specs.Positions.{IsWalking}
use Rattle.lock_step.proofs.Walking.{opening_walking}
use Rattle.lock_step.proofs.walks.Walk.new.Goals as goal

pub invariant_of-result : goal.invariant_of-result
invariant_of-result c =
    let es = c.entries.result.now in
    subst (λ (l : List Event). IsWalking c.in_ok-new.field-0 es 0 0 0 l) (sym c.new-2.ensures)
    (subst (λ (r : LoneState). IsWalking r es 0 0 0 []) (sym c.in_ok-new.ensures.opening)
    (opening_walking (record { image = c.args.image.now; harts = c.args.harts; limit = c.args.limit }) c.args.mode es))
