use Rattle.std.proofs.Common.{◌≡◌, ◌+◌, ◌<◌, ◌^◌, sym, subst, arith}
use Rattle.flat_model.specs.Log.{steps}
use Rattle.flat_model.specs.Worlds.{hart_of}
use Rattle.flat_model.specs.World.{HartState, IsHart}
use Rattle.rv_exec.specs.Sharing.{shared_of}
use Rattle.run_rules.specs.Legal.{Legal}
use Rattle.run_order.specs.InOrder.{task_run}
use Rattle.host_state.specs.State.{StateValue}
use Rattle.host_state.proofs.Commits.{fits}
use Rattle.host_state.proofs.WholeTurns.{IsTurn, at_word, turn_of, turn_sound, has_place}
use Rattle.host_state.proofs.states.HostState.commit_turn.Given.{Over}
use Rattle.host_state.proofs.states.HostState.commit_turn.Goals as goal

pub rest_of_block-rest-requires-clause-place : goal.rest_of_block-rest-requires-clause-place
rest_of_block-rest-requires-clause-place g c =
    at_word c.args.self.now.task.machine c.args.no c.args.ran c.args.before.now c.args.hart.now
    (shared_of c.args.self.now.memory c.args.self.now.services) c.args.raw.now.events c.args.block.now
    (subst IsHart c.before-2.view_is c.before-2.invariant) (subst IsHart c.hart.view_is c.hart.invariant)
    (subst (λ (x : HartState). x.pc < 2 ^ 64) c.before-2.view_is (omega arith))
    c.requires.awake c.requires.starts c.requires.group c.requires.block c.requires.ran

pub rest_of_block-rest-requires-clause-no : goal.rest_of_block-rest-requires-clause-no
rest_of_block-rest-requires-clause-no g c = has_place _ _ c.self.view_is c.self.invariant c.args.no c.requires.begins.is_there

pub push-requires-clause-fits : goal.push-requires-clause-fits
push-requires-clause-fits g c =
    let h = c.args.no in
    let n = c.args.ran + c.rest_of_block-rest.result in
    fits _ h n c.self.invariant
    (subst (λ (s : StateValue). Legal (task_run s.task) (steps h n s.past)) (sym c.self.view_is)
    (turn_of _ _ c.self.view_is c.self.invariant c.image.result.now c.limit.result h c.args.ran c.rest_of_block-rest.result
    c.args.before.now c.args.hart.now c.rest_of_block-rest.new.hart
    (shared_of c.rest_of_block-rest.new.memory c.rest_of_block-rest.new.services) c.args.raw.now.events
    c.rest_of_block-rest.new.raw.events c.image.ensures.image c.limit.ensures.limit c.requires.begins c.requires.before c.requires.awake
    c.requires.group c.requires.ran c.rest_of_block-rest.ensures.whole c.rest_of_block-rest.ensures.rest).legal)

-- the Turn that is recorded
turn : (g : Over) (c : goal.After-self-1 g)
    → IsTurn c.args.self.now c.args.no (c.args.ran + c.rest_of_block-rest.result) c.args.before.now c.rest_of_block-rest.new.hart
    (shared_of c.rest_of_block-rest.new.memory c.rest_of_block-rest.new.services) c.rest_of_block-rest.new.raw.events
turn g c =
    turn_of _ _ c.self.view_is c.self.invariant _ _ _ _ _ _ _ _ _ _ _ c.image.ensures.image c.limit.ensures.limit c.requires.begins
    c.requires.before c.requires.awake c.requires.group c.requires.ran c.rest_of_block-rest.ensures.whole c.rest_of_block-rest.ensures.rest

pub invariant_of-self : goal.invariant_of-self
invariant_of-self g c =
    turn_sound _ _ c.self.view_is c.self.invariant c.args.no _ _ _ _ _ _ _ _ c.requires.taken (turn g c)
    c.with_steps-self-inside.ensures.steps c.push.ensures.appends c.rest_of_block-rest.ensures.layout c.rest_of_block-rest.ensures.places

pub returns-clause-hart : goal.returns-clause-hart
returns-clause-hart g c =
    let h = c.args.no in
    let n = c.args.ran + c.rest_of_block-rest.result in
    rw c.with_steps-self-inside.ensures.steps
    (subst (λ (s : StateValue). c.rest_of_block-rest.new.hart ≡ hart_of s.task.machine s.task.mode (steps h n s.past) h)
    (sym c.self.view_is) (sym (turn g c).hart))

pub returns-clause-told : goal.returns-clause-told
returns-clause-told g c = sym (turn g c).told

pub returns-clause-inside : goal.returns-clause-inside
returns-clause-inside g c = (turn g c).inside

pub returns-clause-legal : goal.returns-clause-legal
returns-clause-legal g c = (invariant_of-self g c).order.legal

pub returns-clause-state_log : goal.returns-clause-state_log
returns-clause-state_log g c = (invariant_of-self g c).order.state_log
