use Rattle.std.proofs.Common.{◌≡◌, ◌<◌, ◌^◌, ◌∙◌, ℕ, ap, sym, subst, arith, true}
use Rattle.flat_model.specs.Image.{Program}
use Rattle.flat_model.specs.World.{HartState, IsHart}
use Rattle.block_finder.specs.Block.{IsBlock}
use Rattle.run_rules.specs.Laws.{MayTurn}
use Rattle.run_rules.specs.Places.{takes_all}
use Rattle.run_order.specs.InOrder.{Task, task_run}
use Rattle.kept_order.proofs.Gone.{there_low}
use Rattle.host_state.specs.State.{StateValue}
use Rattle.hart_runner.proofs.GoingOn.{lies_so, goes_still}
use Rattle.hart_runner.proofs.stretching.commit_first.Goals as goal

pub fail-requires : goal.fail-requires
fail-requires g c = record {
  hart = subst (λ n. n < c.args.state.now.task.machine.harts) (sym (ap (λ s. s.no) c.seat.view_is))
      (there_low (task_run c.args.state.now.task) c.args.seat.now.no c.args.state.now.past c.requires.begins.is_there);
}

pub commit_turn-n-requires-clause-block : goal.commit_turn-n-requires-clause-block
commit_turn-n-requires-clause-block g c =
    subst (λ (y : Program × ℕ). IsBlock y.0 y.1 c.in-Ok.block.now)
    (λ i. ((c.deref.ensures ∙ (ap (λ s. s.image.value) c.seat.view_is ∙ c.requires.image)) i, ap (λ s. s.hart.pc) c.seat.view_is i)) c.in-Ok.ensures.block

pub returns-clause-committed : goal.returns-clause-committed
returns-clause-committed g c =
    let did = c.commit_turn-n.ensures in
    record {
      made = did.steps;
      some = did.some;
      most = did.most;
      is = did.hart;
      events = did.told;
      legal = did.legal;
      state_log = did.state_log;
      task = ap (λ (s : StateValue). s.task) did.rest;
      awake = did.awake;
      leaves = did.leaves;
      within_limit = did.within_limit;
    }

pub returns-clause-turning : goal.returns-clause-turning
returns-clause-turning g c =
    let did = c.commit_turn-n.ensures in
    let task = sym (ap (λ (s : StateValue). s.task) did.rest) in
    record {
      before = c.args.state.now.past;
      made = did.steps;
      may = subst (λ (t : Task). MayTurn (task_run t) c.args.seat.now.no 0 c.args.state.now.past) task c.requires.begins;
      taken = subst (λ (t : Task). takes_all (task_run t) c.args.seat.now.no c.args.state.now.past ≡ true) task c.requires.taken;
    }

pub returns-clause-lies : goal.returns-clause-lies
returns-clause-lies g c =
    let did = c.commit_turn-n.ensures in
    let view = ap (λ s. s.hart) c.seat.view_is in
    let whole = subst IsHart view c.seat.invariant in
    let small = subst (λ (x : HartState). x.pc < 2 ^ 64) view (omega arith) in
    lies_so c.args.state.now.task c.args.seat.now.no c.commit_turn-n.result c.args.state.now.past c.args.seat.now.hart
    c.commit_turn-n.new.raw.events did.told did.inside c.requires.starts whole.aligned small

pub returns-clause-going : goal.returns-clause-going
returns-clause-going g c =
    let did = c.commit_turn-n.ensures in
    goes_still c.args.state.now c.commit_turn-n.new.self c.args.seat.now.no c.commit_turn-n.new.hart
    (ap (λ (s : StateValue). s.task) did.rest) did.hart did.awake did.leaves did.within_limit did.going_on
