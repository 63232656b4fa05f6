use Rattle.baton_gate.proofs.Keeps.{takes}
use Rattle.baton_gate.proofs.gate.Gate.take.Goals as goal

pub pop-baton-requires-clause-rule : goal.pop-baton-requires-clause-rule
pop-baton-requires-clause-rule g c =
    let a = c.requires.gate in
    takes g.S.Kept.log g.S.Kept.party g.S.Kept.frame g.S.Kept.caught_up _ _ (a.alive, a.open_now) c.requires.free
