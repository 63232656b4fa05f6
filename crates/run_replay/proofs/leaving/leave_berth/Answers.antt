use Rattle.std.proofs.Common.{◌≡◌, ◌+◌, ◌<◌, ◌∷◌, ◌∙◌, ℕ, true, refl, sym, ap, subst, arith, length, List, Option}
use Rattle.flat_model.specs.declared.journals.Item.TheVariants.{Left}
use Rattle.run_rules.specs.Legal.{may_leave}
use Rattle.run_order.specs.InOrder.{task_run}
use Rattle.host_state.specs.State.{StateValue}
use Rattle.run_replay.specs.Following.{IsBerth}
use Rattle.run_replay.proofs.leaving.leave_berth.Goals as goal

pub leave_with_room-requires-clause-berth : goal.leave_with_room-requires-clause-berth
leave_with_room-requires-clause-berth g c =
    subst (λ (s : StateValue). IsBerth s.task c.args.no s.past c.args.berth) (sym c.reserve_hold.ensures.rest) c.requires.berth

pub leave_with_room-requires-clause-may : goal.leave_with_room-requires-clause-may
leave_with_room-requires-clause-may g c =
    subst (λ (s : StateValue). may_leave (task_run s.task) c.args.no s.past ≡ true) (sym c.reserve_hold.ensures.rest) c.requires.may

pub returns-clause-left : goal.returns-clause-left
returns-clause-left g c =
    c.leave_with_room.ensures.left ∙ ap (λ (s : StateValue). Left c.args.no ∷ s.past) c.reserve_hold.ensures.rest

pub returns-clause-task : goal.returns-clause-task
returns-clause-task g c = c.leave_with_room.ensures.task ∙ ap (λ (s : StateValue). s.task) c.reserve_hold.ensures.rest
