use Rattle.std.proofs.Common.{◌≡◌, ◌∷◌, ◌∙◌, List, ap, add-one, arith}
use Rattle.flat_model.specs.declared.journals.Item.{Item}
use Rattle.flat_model.specs.declared.journals.Item.TheVariants.{Step}
use Rattle.flat_model.specs.Log.{steps}
use Rattle.host_state.proofs.committing.with_steps.Goals as goal

pub loop-preserved : goal.loop-preserved
loop-preserved c =
    rw add-one (c.with_item-now-in-loop.ensures.item ∙ ap (λ (l : List Item). Step c.args.no ∷ l) c.loop.invariant)

pub returns : goal.returns
returns c =
    record { steps = c.loop.invariant ∙ ap (λ n. steps c.args.no n c.args.past.now.items) (let e : c.loop.counter ≡ c.args.count = omega arith in e) }
