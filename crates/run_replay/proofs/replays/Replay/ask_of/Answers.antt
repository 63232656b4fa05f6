use Rattle.std.proofs.Common.{◌∙◌, None, sym, ap, arith}
use Rattle.std.specs.Prelude.{slice_index_or}
use Rattle.run_order.specs.InOrder.{task_run}
use Rattle.run_replay.specs.Following.{seating_of}
use Rattle.run_replay.proofs.Asks.{absent_asks, none_at_zero, none_past_eight}
use Rattle.run_replay.proofs.Going.{absent, present}
use Rattle.run_replay.proofs.Judged.{noted}
use Rattle.run_replay.proofs.replays.Replay.ask_of.Goals as goal

pub returns-then-plugin-eq0 : goal.returns-then-plugin-eq0
returns-then-plugin-eq0 g c =
    let s = c.args.self.now.state in
    record {
      ask = sym (none_at_zero (task_run s.task) c.args.plugin c.args.no s.past (omega (arith, c.if-plugin-eq0.true)));
    }

pub returns-then-plugin-gt-PLUGINS_MOST : goal.returns-then-plugin-gt-PLUGINS_MOST
returns-then-plugin-gt-PLUGINS_MOST g c =
    let s = c.args.self.now.state in
    record {
      ask = sym (none_past_eight (task_run s.task) c.args.plugin c.args.no s.past c.task.ensures.order.legal
          (omega (arith, c.if-plugin-gt-PLUGINS_MOST.true)));
    }

pub returns-in_default : goal.returns-in_default
returns-in_default g c =
    let s = c.args.self.now.state in
    record {
      ask = sym (absent_asks (task_run s.task) c.args.plugin c.args.no s.past (omega (arith, c.if-plugin-eq0.false))
          c.task.ensures.order.legal c.task.ensures.order.state_log
          (absent s c.args.self.now.berths.items c.args.self.now.blocks c.args.no c.requires.following (c.in_default.ensures.berth ∙ ap (λ bs. slice_index_or bs c.args.no None) c.deref.ensures.value)));
    }

pub waiting_ask-requires-clause-noted : goal.waiting_ask-requires-clause-noted
waiting_ask-requires-clause-noted g c =
    let s = c.args.self.now.state in
    noted s c.args.no c.args.plugin (seating_of c.in-Some.berth.now) (omega (arith, c.if-plugin-eq0.false)) c.task.ensures.order
    (present s c.args.self.now.berths.items c.args.self.now.blocks c.args.no c.in-Some.berth.now c.requires.following
    (c.in-Some.ensures.berth ∙ ap (λ bs. slice_index_or bs c.args.no None) c.deref.ensures.value)).sits
