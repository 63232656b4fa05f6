use Rattle.run_controls.proofs.Settled.{joined_at_gate}
use Rattle.run_controls.proofs.controllers.Controller.join.Goals as goal

pub returns-clause-controls : goal.returns-clause-controls
returns-clause-controls g c =
    joined_at_gate c.args.gate.now c.args.self.now.pass c.join.new.pass c.args.ended c.args.self.now.hand c.requires.controls
    c.join.ensures.gate c.join.ensures.pass.0 c.join.ensures.pass.1
