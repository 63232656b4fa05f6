use Rattle.baton_gate.specs.Passes.{carries, seen}
use Rattle.hart_runner.proofs.Heard.{serves_seat, serves_task}
use Rattle.hart_runner.proofs.runners.Runner.turn.Goals as goal

pub turn_awake-requires-clause-blocks : goal.turn_awake-requires-clause-blocks
turn_awake-requires-clause-blocks g c =
    serves_seat (carries c.args.self.now.pass) c.args.self.now.pass.party (seen c.args.self.now.pass) c.args.self.now.seat
    c.args.self.now.blocks c.requires.gate.open_now c.requires.order c.requires.blocks

pub returns-clause-blocks : goal.returns-clause-blocks
returns-clause-blocks g c =
    serves_task (carries c.args.self.now.pass) c.args.self.now.pass.party (seen c.args.self.now.pass) c.args.self.now.seat
    c.turn_awake.new.blocks c.requires.order c.turn_awake.ensures.blocks
