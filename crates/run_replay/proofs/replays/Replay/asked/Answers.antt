use Rattle.std.proofs.Common.{◌≡◌, ◌∙◌, None, ap, sym, subst}
use Rattle.flat_model.specs.declared.journals.Origin.TheVariants.{Asked}
use Rattle.run_rules.specs.Due.{wanted}
use Rattle.run_rules.specs.Heard.{waiting}
use Rattle.run_order.specs.InOrder.{task_run}
use Rattle.host_state.specs.State.{StateValue}
use Rattle.run_replay.proofs.Follows.{ask_followed}
use Rattle.run_replay.proofs.replays.Replay.asked.Goals as goal

pub ask-requires-clause-open : goal.ask-requires-clause-open
ask-requires-clause-open g c = ap (λ s. s.short) c.reserve_hold.ensures.rest ∙ c.requires.following.open_now

pub ask-requires-clause-caught_up : goal.ask-requires-clause-caught_up
ask-requires-clause-caught_up g c =
    subst (λ (s : StateValue). wanted (task_run s.task) s.past ≡ None) (sym c.reserve_hold.ensures.rest) c.requires.following.caught_up

pub ask-requires-clause-ask : goal.ask-requires-clause-ask
ask-requires-clause-ask g c =
    subst (λ (s : StateValue). c.ask_of-asks.result ≡ waiting (task_run s.task) c.args.plugin c.args.no s.past)
    (sym c.reserve_hold.ensures.rest) c.ask_of-asks.ensures.ask

pub returns : goal.returns
returns g c = record {
  followed = ask_followed c.ask.result (Asked c.args.no c.args.plugin) c.args.order.now c.args.self.now.state c.reserve_hold.new.self
      c.ask.new.state c.args.self.now.berths.items c.args.self.now.blocks tt c.requires.following
      (ap (λ s. s.task) c.reserve_hold.ensures.rest) (ap (λ s. s.short) c.reserve_hold.ensures.rest)
      (ap (λ s. s.past) c.reserve_hold.ensures.rest) c.ask.ensures.judged;
}
