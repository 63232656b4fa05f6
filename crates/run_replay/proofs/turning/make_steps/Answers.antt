use Rattle.std.proofs.Common.{◌≡◌, ◌+◌, ◌<◌, ◌∷◌, ◌∙◌, ℕ, suc, List, ap, sym, arith}
use Rattle.flat_model.specs.declared.journals.Item.{Item}
use Rattle.flat_model.specs.declared.journals.Item.TheVariants.{Step}
use Rattle.flat_model.specs.Log.{steps}
use Rattle.run_replay.proofs.Turned.{breaks_at}
use Rattle.run_replay.proofs.turning.make_steps.Goals as goal

pub returns-then-not-may_step : goal.returns-then-not-may_step
returns-then-not-may_step g c =
    let was = c.loop-made.invariant in
    let below : c.loop-made.made < c.args.n = omega (arith, c.loop-made-test.true, c.loop-made.auto.made-end) in
    record {
      made = breaks_at c.args.state.now c.loop-made.state c.args.no c.loop-made.made c.args.n below was.task was.gone
          (sym c.if-not-may_step.ensures.may);
    }

pub loop-made-preserved : goal.loop-made-preserved
loop-made-preserved g c =
    let was = c.loop-made.invariant in
    let did = c.in_ok-step.ensures in
    let next : suc c.loop-made.made ≡ c.loop-made.made + 1 = omega arith in
    record {
      turning = did.turning;
      open_now = did.open;
      task = did.task ∙ was.task;
      gone = did.stepped ∙ ap (λ (xs : List Item). Step c.args.no ∷ xs) was.gone
          ∙ ap (λ (k : ℕ). steps c.args.no k c.args.state.now.past) next;
    }
