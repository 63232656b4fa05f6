use Rattle.std.proofs.Common.{ℕ, sym, subst}
use Rattle.baton_gate.specs.Logs.{Adds}
use Rattle.baton_gate.specs.Passes.{seen}
use Rattle.baton_gate.proofs.Keeps.{gives}
use Rattle.baton_gate.proofs.gate.Gate.give.Goals as goal

pub push-requires-clause-rule : goal.push-requires-clause-rule
push-requires-clause-rule g c =
    let a = c.requires.gate in
    let pass = c.args.pass.now in
    gives g.S.Kept.log g.S.Kept.party g.S.Kept.frame g.S.Kept.caught_up _ _ _ _ (a.alive, a.open_now) c.requires.holds (sym a.counted) c.requires.caught_up c.requires.frame
    (subst (λ (k : ℕ). Adds g.S.Kept.party (g.S.Kept.log c.args.state) k (seen pass)) a.numbered c.requires.log)
