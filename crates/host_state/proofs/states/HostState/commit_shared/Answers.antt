use Rattle.std.proofs.Common.{◌≡◌, ◌≤◌, ◌<◌, ◌∷◌, true, sym, subst, ◌∙◌, arith}
use Rattle.std.specs.Prelude.{ℕ}
use Rattle.flat_model.specs.declared.journals.Item.TheVariants.{Step}
use Rattle.flat_model.specs.Worlds.{hart_of}
use Rattle.run_rules.specs.Legal.{Legal}
use Rattle.run_rules.specs.Places.{takes_all}
use Rattle.run_order.specs.InOrder.{task_run}
use Rattle.host_state.specs.State.{StateValue}
use Rattle.host_state.proofs.Commits.{ready, fits, committed, stands, memory_stays}
use Rattle.host_state.proofs.states.HostState.commit_shared.Goals as goal

pub shared_step-requires-clause-awake : goal.shared_step-requires-clause-awake
shared_step-requires-clause-awake g c =
    let h = c.args.no in
    let view = sym c.self.view_is in
    let legal = subst (λ (s : StateValue). Legal (task_run s.task) (Step h ∷ s.past)) view c.requires.legal in
    let is = subst (λ (s : StateValue). c.args.hart.now ≡ hart_of s.task.machine s.task.mode s.past h) view c.requires.hart in
    (ready _ h 1 c.args.hart.now c.self.invariant (let e : 1 ≤ 1 = omega arith in e) legal is).awake

pub shared_step-requires-clause-running : goal.shared_step-requires-clause-running
shared_step-requires-clause-running g c =
    let h = c.args.no in
    let view = sym c.self.view_is in
    let legal = subst (λ (s : StateValue). Legal (task_run s.task) (Step h ∷ s.past)) view c.requires.legal in
    let is = subst (λ (s : StateValue). c.args.hart.now ≡ hart_of s.task.machine s.task.mode s.past h) view c.requires.hart in
    (ready _ h 1 c.args.hart.now c.self.invariant (let e : 1 ≤ 1 = omega arith in e) legal is).running

pub shared_step-requires-clause-going_on : goal.shared_step-requires-clause-going_on
shared_step-requires-clause-going_on g c =
    let h = c.args.no in
    let view = sym c.self.view_is in
    let legal = subst (λ (s : StateValue). Legal (task_run s.task) (Step h ∷ s.past)) view c.requires.legal in
    let is = subst (λ (s : StateValue). c.args.hart.now ≡ hart_of s.task.machine s.task.mode s.past h) view c.requires.hart in
    (ready _ h 1 c.args.hart.now c.self.invariant (let e : 1 ≤ 1 = omega arith in e) legal is).going_on

pub shared_step-requires-clause-no : goal.shared_step-requires-clause-no
shared_step-requires-clause-no g c =
    let h = c.args.no in
    let view = sym c.self.view_is in
    let legal = subst (λ (s : StateValue). Legal (task_run s.task) (Step h ∷ s.past)) view c.requires.legal in
    let is = subst (λ (s : StateValue). c.args.hart.now ≡ hart_of s.task.machine s.task.mode s.past h) view c.requires.hart in
    subst (λ (n : ℕ). h < n) (sym c.self.invariant.places)
    (ready _ h 1 c.args.hart.now c.self.invariant (let e : 1 ≤ 1 = omega arith in e) legal is).low

pub push-requires-clause-fits : goal.push-requires-clause-fits
push-requires-clause-fits g c =
    let h = c.args.no in
    fits _ h 1 c.self.invariant (subst (λ (s : StateValue). Legal (task_run s.task) (Step h ∷ s.past)) (sym c.self.view_is) c.requires.legal)

pub invariant_of-self : goal.invariant_of-self
invariant_of-self g c =
    let h = c.args.no in
    let view = sym c.self.view_is in
    let sound = c.self.invariant in
    let legal = subst (λ (s : StateValue). Legal (task_run s.task) (Step h ∷ s.past)) view c.requires.legal in
    let taken = subst (λ (s : StateValue). takes_all (task_run s.task) h s.past ≡ true) view c.requires.taken in
    let is = subst (λ (s : StateValue). c.args.hart.now ≡ hart_of s.task.machine s.task.mode s.past h) view c.requires.hart in
    let after = stands _ h _ _ c.args.hart.now c.shared_step.new.hart _ _ _ sound c.image.ensures.image c.limit.ensures.limit is
    c.shared_step.ensures.step in
    committed _ h 1 _ _ _ _ sound legal taken (record {
      past = c.with_item-self-inside.ensures.item;
      journal = c.push.ensures.appends;
      shared = sym after.shared;
      memory = memory_stays c.self.inside.task.machine.image _ _ c.shared_step.ensures.layout sound.memory;
      places = c.shared_step.ensures.layout.harts ∙ sound.places;
      starts = c.shared_step.ensures.places.starts ∙ sound.starts;
    })

pub returns-clause-hart : goal.returns-clause-hart
returns-clause-hart g c =
    let h = c.args.no in
    let is = subst (λ (s : StateValue). c.args.hart.now ≡ hart_of s.task.machine s.task.mode s.past h) (sym c.self.view_is) c.requires.hart in
    let after = stands _ h _ _ c.args.hart.now c.shared_step.new.hart _ _ _ c.self.invariant c.image.ensures.image c.limit.ensures.limit is
    c.shared_step.ensures.step in
    rw c.with_item-self-inside.ensures.item (sym after.hart)
