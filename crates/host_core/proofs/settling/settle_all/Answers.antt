use Rattle.std.proofs.Common.{◌∙◌, Bool, subst}
use Rattle.host_core.specs.Settling.{IsSettled}
use Rattle.host_core.proofs.SettledStates.{fewer_left, goes_on_told}
use Rattle.host_core.proofs.settling.settle_all.Goals as goal

pub loop-smaller : goal.loop-smaller
loop-smaller g c =
    fewer_left c.args.party c.loop.state c.settle.new.state
    (subst (λ (b : Bool). IsSettled b c.args.party c.loop.state c.settle.new.state) c.if-branch.true c.in_ok-settle.ensures.settled)
    c.settle.ensures.task

pub loop-preserved : goal.loop-preserved
loop-preserved g c =
    let told =
    subst (λ (b : Bool). IsSettled b c.args.party c.loop.state c.settle.new.state) c.if-branch.true c.in_ok-settle.ensures.settled in
    record {
      may = c.in_ok-settle.ensures.may;
      task = c.settle.ensures.task ∙ c.loop.invariant.task;
      goes_on = goes_on_told c.args.party c.args.state.now c.loop.state c.settle.new.state c.loop.invariant.goes_on told;
    }
