use Rattle.std.proofs.Common.{◌≡◌, ◌∷◌, ◌∙◌, Some, ap, sym}
use Rattle.flat_model.specs.declared.journals.Item.TheVariants.{Ordered}
use Rattle.flat_model.specs.declared.journals.Origin.TheVariants.{Asked}
use Rattle.run_rules.specs.Legal.{asked_order}
use Rattle.run_order.specs.InOrder.{task_run}
use Rattle.run_replay.proofs.Asks.{asked_number}
use Rattle.run_replay.proofs.asking.ask.Goals as goal

pub returns-in_default : goal.returns-in_default
returns-in_default g c = record { judged = λ rule. c.in_default.ensures.how (ap (asked_order c.args.plugin) c.requires.ask ∙ rule.given.1) }

pub withdraw-requires-clause-least : goal.withdraw-requires-clause-least
withdraw-requires-clause-least g c =
    asked_number (task_run c.args.state.now.task) c.args.plugin c.args.no c.args.state.now.past c.args.order.now
    (ap (asked_order c.args.plugin) (sym c.requires.ask) ∙ c.in-Some.ensures.how.0)

pub withdraw-requires-clause-asked : goal.withdraw-requires-clause-asked
withdraw-requires-clause-asked g c =
    ap (asked_order c.args.plugin) (sym c.requires.ask) ∙ c.in-Some.ensures.how.0 ∙ ap Some c.in-Some.ensures.how.1

pub returns : goal.returns
returns g c = record {
  judged = record {
    task = ap (λ s. s.task) c.withdraw.ensures.rest;
    open_now = ap (λ s. s.short) c.withdraw.ensures.rest;
    past = c.withdraw.ensures.recorded
        ∙ ap (λ o. Ordered (Asked c.args.no c.args.plugin) o ∷ c.args.state.now.past) (sym c.in-Some.ensures.how.1);
    order = c.task.ensures.order;
  };
}
