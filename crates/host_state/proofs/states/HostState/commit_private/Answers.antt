use Rattle.std.proofs.Common.{◌≡◌, true, sym, subst}
use Rattle.flat_model.specs.Log.{steps}
use Rattle.flat_model.specs.Worlds.{hart_of}
use Rattle.run_rules.specs.Legal.{Legal}
use Rattle.run_rules.specs.Places.{takes_all}
use Rattle.run_order.specs.InOrder.{task_run}
use Rattle.host_state.specs.State.{StateValue}
use Rattle.host_state.specs.Moving.{MovesAlone}
use Rattle.host_state.proofs.Commits.{ready, fits, committed, moved_hart, moved_shared}
use Rattle.host_state.proofs.states.HostState.commit_private.Goals as goal

pub push-requires-clause-fits : goal.push-requires-clause-fits
push-requires-clause-fits g c =
    let h = c.args.no in
    let n = c.args.ran in
    let legal = subst (λ (s : StateValue). Legal (task_run s.task) (steps h n s.past)) (sym c.self.view_is) c.requires.legal in
    fits _ h n c.self.invariant legal

pub invariant_of-self : goal.invariant_of-self
invariant_of-self g c =
    let h = c.args.no in
    let n = c.args.ran in
    let view = sym c.self.view_is in
    let legal = subst (λ (s : StateValue). Legal (task_run s.task) (steps h n s.past)) view c.requires.legal in
    let taken = subst (λ (s : StateValue). takes_all (task_run s.task) h s.past ≡ true) view c.requires.taken in
    let is = subst (λ (s : StateValue). c.args.before.now ≡ hart_of s.task.machine s.task.mode s.past h) view c.requires.hart in
    let moves = subst (λ (s : StateValue). MovesAlone s.task.machine h n c.args.before.now c.args.after.now) view c.requires.alone in
    let is_ready = ready _ h n c.args.before.now c.self.invariant c.requires.some legal is in
    committed _ h n _ _ _ _ c.self.invariant legal taken (record {
      past = c.with_steps-self-inside.ensures.steps;
      journal = c.push.ensures.appends;
      shared = moved_shared _ h n c.args.before.now c.args.after.now c.self.invariant is_ready is moves;
      memory = c.self.invariant.memory;
      places = c.self.invariant.places;
      starts = c.self.invariant.starts;
    })

pub returns-clause-hart : goal.returns-clause-hart
returns-clause-hart g c =
    let h = c.args.no in
    let n = c.args.ran in
    let view = sym c.self.view_is in
    let legal = subst (λ (s : StateValue). Legal (task_run s.task) (steps h n s.past)) view c.requires.legal in
    let is = subst (λ (s : StateValue). c.args.before.now ≡ hart_of s.task.machine s.task.mode s.past h) view c.requires.hart in
    let moves = subst (λ (s : StateValue). MovesAlone s.task.machine h n c.args.before.now c.args.after.now) view c.requires.alone in
    let is_ready = ready _ h n c.args.before.now c.self.invariant c.requires.some legal is in
    rw c.with_steps-self-inside.ensures.steps
    (moved_hart _ h n c.args.before.now c.args.after.now c.self.invariant is_ready is moves)
