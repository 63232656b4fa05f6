use Rattle.baton_gate.proofs.Keeps.{joins}
use Rattle.baton_gate.proofs.gate.Gate.join.Goals as goal

pub absorb-requires-clause-rule : goal.absorb-requires-clause-rule
absorb-requires-clause-rule g c =
    let a = c.requires.gate.0 in let b = c.requires.gate.1 in
    joins g.S.Kept.log g.S.Kept.party g.S.Kept.frame g.S.Kept.caught_up _ _ _ _ (a.alive, a.open_now) (b.alive, b.open_now) c.requires.free.0 c.requires.free.1
