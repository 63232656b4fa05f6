use Rattle.std.proofs.Common.{ap, sym, ◌∙◌}
use Rattle.baton_gate.specs.Passes.{carries, seen, known}
use Rattle.hart_runner.specs.Turns.{HasLists}
use Rattle.hart_runner.proofs.Runs.{same_again, has_left_last, went_on, waited_on, sits_on, seat_there, serves_on}
use Rattle.hart_runner.proofs.runners.Runner.run.Goals as goal

pub returns-in-Left-clause-left : goal.returns-in-Left-clause-left
returns-in-Left-clause-left g c =
    (has_left_last (carries c.loop.self.pass) c.turn.result c.in_ok-turned.turned c.loop.self.pass.party c.args.self.now.pass.party
    (seen c.loop.self.pass) (seen c.turn.new.self.pass) c.turn.new.self.seat c.loop.invariant.gate.open_now
    (sym c.loop.invariant.party) c.turn.ensures.done c.in_ok-turned.was c.in-Left.is).0

pub returns-in-Left-clause-over : goal.returns-in-Left-clause-over
returns-in-Left-clause-over g c =
    (has_left_last (carries c.loop.self.pass) c.turn.result c.in_ok-turned.turned c.loop.self.pass.party c.args.self.now.pass.party
    (seen c.loop.self.pass) (seen c.turn.new.self.pass) c.turn.new.self.seat c.loop.invariant.gate.open_now
    (sym c.loop.invariant.party) c.turn.ensures.done c.in_ok-turned.was c.in-Left.is).1

pub loop-preserved-in-Went : goal.loop-preserved-in-Went
loop-preserved-in-Went g c =
    let did = c.turn.ensures in
    let task = ap (λ v. v.frame) did.same in
    let order = sits_on (carries c.loop.self.pass) (carries c.turn.new.self.pass) c.turn.result c.in_ok-turned.turned c.loop.self.pass.party
    c.turn.new.self.pass.party (seen c.loop.self.pass) (seen c.turn.new.self.pass) c.turn.new.self.seat task did.party did.done
    c.in_ok-turned.was (went_on c.in_ok-turned.turned c.in-Went.is) in
    record {
      gate = did.gate;
      same = same_again (known c.args.self.now.pass) (known c.loop.self.pass) (known c.turn.new.self.pass) c.loop.invariant.same did.same;
      party = did.party ∙ c.loop.invariant.party;
      order = order;
      blocks = serves_on (carries c.loop.self.pass) (carries c.turn.new.self.pass) c.turn.new.self.blocks task did.blocks;
      lists = seat_there (carries c.turn.new.self.pass) c.turn.new.self.pass.party (seen c.turn.new.self.pass) c.turn.new.self.seat
          (HasLists c.turn.new.self.lists) did.gate.open_now order c.in_ok-turned.ensures.lists;
    }

pub loop-preserved : goal.loop-preserved
loop-preserved g c =
    let did = c.turn.ensures in
    let task = ap (λ v. v.frame) did.same in
    let order = sits_on (carries c.loop.self.pass) (carries c.turn.new.self.pass) c.turn.result c.in_ok-turned.turned c.loop.self.pass.party
    c.turn.new.self.pass.party (seen c.loop.self.pass) (seen c.turn.new.self.pass) c.turn.new.self.seat task did.party did.done
    c.in_ok-turned.was (waited_on c.in_ok-turned.turned c.in-Waited.is) in
    record {
      gate = did.gate;
      same = same_again (known c.args.self.now.pass) (known c.loop.self.pass) (known c.turn.new.self.pass) c.loop.invariant.same did.same;
      party = did.party ∙ c.loop.invariant.party;
      order = order;
      blocks = serves_on (carries c.loop.self.pass) (carries c.turn.new.self.pass) c.turn.new.self.blocks task did.blocks;
      lists = seat_there (carries c.turn.new.self.pass) c.turn.new.self.pass.party (seen c.turn.new.self.pass) c.turn.new.self.seat
          (HasLists c.turn.new.self.lists) did.gate.open_now order c.in_ok-turned.ensures.lists;
    }
