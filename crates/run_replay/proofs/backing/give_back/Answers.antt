use Rattle.std.proofs.Common.{◌≡◌, ◌+◌, ◌<◌, ◌∷◌, ◌∙◌, ℕ, true, refl, sym, ap, subst, arith, length, List, Option}
use Rattle.flat_model.specs.declared.journals.Item.TheVariants.{GaveBack}
use Rattle.run_rules.specs.Legal.{may_give_back}
use Rattle.run_order.specs.InOrder.{task_run}
use Rattle.host_state.specs.State.{StateValue}
use Rattle.run_replay.specs.Following.{IsBerth}
use Rattle.run_replay.proofs.backing.give_back.Goals as goal

pub give_back_with_room-requires-clause-berth : goal.give_back_with_room-requires-clause-berth
give_back_with_room-requires-clause-berth g c =
    subst (λ (s : StateValue). IsBerth s.task c.args.no s.past c.args.berth.now) (sym c.reserve_hold.ensures.rest) c.requires.berth

pub give_back_with_room-requires-clause-may : goal.give_back_with_room-requires-clause-may
give_back_with_room-requires-clause-may g c =
    subst (λ (s : StateValue). may_give_back (task_run s.task) c.args.no c.args.plugin s.past ≡ true) (sym c.reserve_hold.ensures.rest)
    c.requires.may

pub returns-clause-back : goal.returns-clause-back
returns-clause-back g c =
    c.give_back_with_room.ensures.back ∙ ap (λ (s : StateValue). GaveBack c.args.no c.args.plugin ∷ s.past) c.reserve_hold.ensures.rest

pub returns-clause-task : goal.returns-clause-task
returns-clause-task g c = c.give_back_with_room.ensures.task ∙ ap (λ (s : StateValue). s.task) c.reserve_hold.ensures.rest
