use Rattle.std.proofs.Common.{◌≡◌, ◌+◌, sym, subst, arith}
use Rattle.flat_model.specs.Log.{steps}
use Rattle.flat_model.specs.Worlds.{hart_of}
use Rattle.rv_exec.specs.Sharing.{shared_of}
use Rattle.run_rules.specs.Legal.{Legal}
use Rattle.run_order.specs.InOrder.{task_run}
use Rattle.host_state.specs.MidTurns.{IsMidTurn}
use Rattle.host_state.specs.State.{StateValue}
use Rattle.host_state.proofs.Commits.{fits}
use Rattle.host_state.proofs.WholeTurns.{IsTurn, turn_sound, has_place}
use Rattle.host_state.proofs.WholeBlocks.{block_of, mid_again, takes_still, there_yet}
use Rattle.host_state.proofs.states.HostState.commit_block.Given.{Over}
use Rattle.host_state.proofs.states.HostState.commit_block.Goals as goal

pub shared_run-more-requires-clause-no : goal.shared_run-more-requires-clause-no
shared_run-more-requires-clause-no g c =
    has_place _ _ c.self.view_is c.self.invariant c.args.no
    (there_yet (task_run c.args.self.now.task) c.args.no c.args.made c.args.self.now.past c.requires.turning)

pub push-requires-clause-fits : goal.push-requires-clause-fits
push-requires-clause-fits g c =
    let h = c.args.no in
    let n = c.shared_run-more.result in
    fits _ h n c.self.invariant
    (subst (λ (s : StateValue). Legal (task_run s.task) (steps h n s.past)) (sym c.self.view_is)
    (block_of _ _ c.self.view_is c.self.invariant c.image.result.now c.limit.result h c.args.made n
    c.args.hart.now c.shared_run-more.new.hart (shared_of c.shared_run-more.new.memory c.shared_run-more.new.services)
    c.args.raw.now.events c.shared_run-more.new.raw.events c.image.ensures.image c.limit.ensures.limit c.requires.turning c.requires.hart
    c.requires.running c.requires.untold (omega (arith, c.shared_run-more.ensures.words, c.requires.fits, c.requires.block.all))
    c.shared_run-more.ensures.steps c.shared_run-more.ensures.each c.shared_run-more.ensures.inside).legal)

-- the block that is recorded
turn : (g : Over) (c : goal.After-self-1 g)
    → IsTurn c.args.self.now c.args.no c.shared_run-more.result c.args.hart.now c.shared_run-more.new.hart
    (shared_of c.shared_run-more.new.memory c.shared_run-more.new.services) c.shared_run-more.new.raw.events
turn g c =
    block_of _ _ c.self.view_is c.self.invariant _ _ _ _ _ _ _ _ _ _ c.image.ensures.image c.limit.ensures.limit c.requires.turning
    c.requires.hart c.requires.running c.requires.untold
    (omega (arith, c.shared_run-more.ensures.words, c.requires.fits, c.requires.block.all))
    c.shared_run-more.ensures.steps c.shared_run-more.ensures.each c.shared_run-more.ensures.inside

pub invariant_of-self : goal.invariant_of-self
invariant_of-self g c =
    turn_sound _ _ c.self.view_is c.self.invariant c.args.no _ _ _ _ _ _ _ _
    (takes_still (task_run c.args.self.now.task) c.args.no c.args.made c.args.self.now.past c.requires.turning) (turn g c)
    c.with_steps-self-inside.ensures.steps c.push.ensures.appends c.shared_run-more.ensures.layout c.shared_run-more.ensures.places

pub returns-clause-turning : goal.returns-clause-turning
returns-clause-turning g c =
    let h = c.args.no in
    let n = c.shared_run-more.result in
    rw c.with_steps-self-inside.ensures.steps
    (subst (λ (s : StateValue). IsMidTurn (task_run s.task) h (c.args.made + n) (steps h n s.past)) (sym c.self.view_is)
    (mid_again (task_run c.args.self.now.task) h c.args.made n c.args.self.now.past c.requires.turning))

pub returns-clause-hart : goal.returns-clause-hart
returns-clause-hart g c =
    let h = c.args.no in
    let n = c.shared_run-more.result in
    rw c.with_steps-self-inside.ensures.steps
    (subst (λ (s : StateValue). c.shared_run-more.new.hart ≡ hart_of s.task.machine s.task.mode (steps h n s.past) h)
    (sym c.self.view_is) (sym (turn g c).hart))

pub returns-clause-told : goal.returns-clause-told
returns-clause-told g c = sym (turn g c).told

pub returns-clause-inside : goal.returns-clause-inside
returns-clause-inside g c = (turn g c).inside

pub returns-clause-legal : goal.returns-clause-legal
returns-clause-legal g c = (invariant_of-self g c).order.legal

pub returns-clause-state_log : goal.returns-clause-state_log
returns-clause-state_log g c = (invariant_of-self g c).order.state_log
