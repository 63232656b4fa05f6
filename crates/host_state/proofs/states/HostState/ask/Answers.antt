use Rattle.std.proofs.Common.{◌+◌, arith}
use Rattle.host_state.proofs.Asked.{next, all_quiet}
use Rattle.host_state.proofs.states.HostState.ask.Goals as goal

pub loop-place-preserved : goal.loop-place-preserved
loop-place-preserved g c =
    let one = c.ask_one.ensures in
    next c.args.self.now c.loop-place.self c.ask_one.new.self c.args.no c.loop-place.place (c.loop-place.place + 1) c.args.asks.now.first
    (omega arith) c.loop-place.invariant (record {
      asked = one.asked;
      rest = one.rest;
      unmoved = one.unmoved;
      quieted = one.quieted;
      none = one.caught_up;
      room = one.room;
    })

pub returns-clause-quiet : goal.returns-clause-quiet
returns-clause-quiet g c =
    all_quiet c.args.self.now c.loop-place.self c.args.no c.loop-place.place c.args.asks.now.first c.loop-place.invariant
    (omega (arith, c.plugin_count-place-end.ensures.count))
