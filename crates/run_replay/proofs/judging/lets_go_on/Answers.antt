use Rattle.std.proofs.Common.{◌≡◌, ◌+◌, ◌-◌, ◌&&◌, ◌∙◌, ℕ, nat_lt, ap, sym, arith}
use Rattle.std.specs.Prelude.{slice_index_or}
use Rattle.flat_model.specs.declared.limits.TheConstants.{BLOCK_WORDS}
use Rattle.flat_model.specs.Asks.{stays}
use Rattle.run_replay.specs.Following.{seating_of}
use Rattle.run_replay.proofs.Judged.{noted, counted}
use Rattle.run_replay.proofs.judging.lets_go_on.Goals as goal

pub waiting_ask-requires-clause-noted : goal.waiting_ask-requires-clause-noted
waiting_ask-requires-clause-noted g c =
    noted c.args.state.now c.args.no c.args.plugin (seating_of c.args.berth.now) c.requires.least c.task.ensures.order c.requires.sits

pub returns : goal.returns
returns g c = record {
  goes = c.is_in_time.ensures.time
      ∙ ap (λ (k : ℕ). nat_lt (slice_index_or c.args.berth.now.since k 0) c.args.made
      && nat_lt (slice_index_or c.args.berth.now.since k 0 + 1) BLOCK_WORDS) c.from.ensures
      ∙ counted c.args.state.now c.args.no c.args.plugin c.args.made (seating_of c.args.berth.now) c.requires.least c.task.ensures.order
      c.requires.sits (sym (ap stays c.waiting_ask.ensures.ask) ∙ sym c.if-stays.ensures.stays) c.requires.turn;
}
