use Rattle.std.proofs.Common.{◌≡◌, ◌+◌, ◌∙◌, ℕ, refl, subst, arith}
use Rattle.run_order.specs.InOrder.{Task, task_run}
use Rattle.host_state.specs.MidTurns.{IsMidTurn}
use Rattle.hart_runner.specs.Stretches.{GoesOnBy}
use Rattle.hart_runner.proofs.GoingOn.{nothing_more, same_turn, goes_twice}
use Rattle.hart_runner.proofs.stretching.go_on.Goals as goal

pub loop-init : goal.loop-init
loop-init g c = record {
  turning = same_turn (task_run c.args.state.now.task) c.args.no c.args.made c.args.state.now.past c.requires.turning;
  most = omega (arith, c.requires.most);
  open_now = c.requires.open;
  going = c.requires.going;
  gone = nothing_more c.args.state.now.task c.args.no c.args.state.now.past c.args.hart.now c.args.has_sets
      c.args.tape.now.pieces.items c.args.tape.now.pieces.items refl c.requires.going.is;
  task = refl;
}

pub loop-preserved : goal.loop-preserved
loop-preserved g c =
    let did = c.next_block-n.ensures in
    let kept = c.loop.invariant in
    record {
      turning = subst (λ (k : ℕ). IsMidTurn (task_run c.next_block-n.new.state.task) c.args.no k c.next_block-n.new.state.past)
          (let e : c.args.made + c.loop.more + c.next_block-n.result ≡ c.args.made + (c.loop.more + c.next_block-n.result) = omega arith in e)
          did.turning;
      most = omega (arith, did.most);
      open_now = did.open;
      going = did.going;
      gone = goes_twice c.args.state.now.task c.args.no c.loop.more c.next_block-n.result c.args.state.now.past c.loop.state.past
          c.next_block-n.new.state.past c.args.hart.now c.loop.hart c.next_block-n.new.hart c.args.has_sets
          c.args.tape.now.pieces.items c.loop.tape.pieces.items c.next_block-n.new.tape.pieces.items c.requires.going.is kept.gone
          (subst (λ (t : Task). GoesOnBy t c.args.no c.next_block-n.result c.loop.state.past c.next_block-n.new.state.past c.loop.hart
          c.next_block-n.new.hart c.args.has_sets c.loop.tape.pieces.items c.next_block-n.new.tape.pieces.items) kept.task did.gone);
      task = did.task ∙ kept.task;
    }

pub returns-then-n-eq0-clause-gone : goal.returns-then-n-eq0-clause-gone
returns-then-n-eq0-clause-gone g c =
    let did = c.next_block-n.ensures in
    let kept = c.loop.invariant in
    subst (λ (k : ℕ). GoesOnBy c.args.state.now.task c.args.no k c.args.state.now.past c.next_block-n.new.state.past c.args.hart.now
    c.next_block-n.new.hart c.args.has_sets c.args.tape.now.pieces.items c.next_block-n.new.tape.pieces.items)
    (let e : c.loop.more + c.next_block-n.result ≡ c.loop.more = omega (arith, c.if-n-eq0.true) in e)
    (goes_twice c.args.state.now.task c.args.no c.loop.more c.next_block-n.result c.args.state.now.past c.loop.state.past
    c.next_block-n.new.state.past c.args.hart.now c.loop.hart c.next_block-n.new.hart c.args.has_sets
    c.args.tape.now.pieces.items c.loop.tape.pieces.items c.next_block-n.new.tape.pieces.items c.requires.going.is kept.gone
    (subst (λ (t : Task). GoesOnBy t c.args.no c.next_block-n.result c.loop.state.past c.next_block-n.new.state.past c.loop.hart
    c.next_block-n.new.hart c.args.has_sets c.loop.tape.pieces.items c.next_block-n.new.tape.pieces.items) kept.task did.gone))
