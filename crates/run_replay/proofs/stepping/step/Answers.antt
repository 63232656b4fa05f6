use Rattle.std.proofs.Common.{◌≡◌, ◌∷◌, ◌∙◌, true, ap, sym, subst, List}
use Rattle.flat_model.specs.declared.journals.Item.{Item}
use Rattle.flat_model.specs.declared.journals.Item.TheVariants.{Step}
use Rattle.run_rules.specs.Legal.{may_step}
use Rattle.run_order.specs.InOrder.{task_run}
use Rattle.host_state.specs.State.{StateValue}
use Rattle.run_replay.specs.Following.{IsTurning}
use Rattle.run_replay.proofs.Turned.{still_ok}
use Rattle.run_replay.proofs.stepping.step.Goals as goal

pub step_with_room-requires-clause-turning : goal.step_with_room-requires-clause-turning
step_with_room-requires-clause-turning g c =
    subst (λ (s : StateValue). IsTurning s.task c.args.no c.args.made s.past c.args.berth.now c.args.blocks.now)
    (sym c.reserve_hold.ensures.rest) c.requires.turning

pub step_with_room-requires-clause-may : goal.step_with_room-requires-clause-may
step_with_room-requires-clause-may g c =
    subst (λ (s : StateValue). may_step (task_run s.task) c.args.no s.past ≡ true) (sym c.reserve_hold.ensures.rest) c.requires.may

pub returns-clause-stepped : goal.returns-clause-stepped
returns-clause-stepped g c =
    still_ok c.step_with_room.result (c.step_with_room.new.state.past ≡ Step c.args.no ∷ c.reserve_hold.new.self.past)
    (c.step_with_room.new.state.past ≡ Step c.args.no ∷ c.args.state.now.past)
    (λ is. is ∙ ap (λ (s : StateValue). Step c.args.no ∷ s.past) c.reserve_hold.ensures.rest)
    c.step_with_room.ensures.stepped

pub returns-clause-task : goal.returns-clause-task
returns-clause-task g c =
    still_ok c.step_with_room.result (c.step_with_room.new.state.task ≡ c.reserve_hold.new.self.task)
    (c.step_with_room.new.state.task ≡ c.args.state.now.task)
    (λ is. is ∙ ap (λ (s : StateValue). s.task) c.reserve_hold.ensures.rest)
    c.step_with_room.ensures.task
