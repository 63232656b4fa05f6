use Rattle.baton_gate.proofs.Keeps.{opens}
use Rattle.baton_gate.proofs.gate.Gate.open.Goals as goal

pub push-requires-clause-rule : goal.push-requires-clause-rule
push-requires-clause-rule g c =
    rw c.requires.unopened (opens g.S.Kept.log g.S.Kept.party g.S.Kept.frame g.S.Kept.caught_up _ _ (record { state = c.args.state; parties = c.args.self.now.parties }) c.requires.caught_up c.requires.parties)
