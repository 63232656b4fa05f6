use Rattle.std.proofs.Common.{◌≡◌, arith}
use Rattle.std.proofs.lemmas.List.Elements.{All-push, All-same}
use Rattle.host_state.specs.declared.arrivals.ArrivalRoom.{ArrivalRoom}
use Rattle.host_state.proofs.arrivals.room_for_row.Goals as goal

pub loop-hart-preserved : goal.loop-hart-preserved
loop-hart-preserved g c = record {
  specs = All-same {X = ArrivalRoom g.row.W.Denot g.W.Watcher} (λ place. place.spec ≡ c.args.spec.now) c.push.new.self.items _
      c.in_ok-push.ensures.items
      (All-push {X = ArrivalRoom g.row.W.Denot g.W.Watcher} (λ place. place.spec ≡ c.args.spec.now) c.loop-hart.places.items
      c.in_ok-room_for_one.field-0 c.loop-hart.invariant.specs c.in_ok-room_for_one.ensures.spec);
  count = omega (arith, c.in_ok-push.ensures.len);
}
