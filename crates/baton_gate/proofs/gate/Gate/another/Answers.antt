use Rattle.std.proofs.Common.{ℕ, ◌<◌, sym, ◌∙◌, subst}
use Rattle.baton_gate.specs.Passes.{parties}
use Rattle.baton_gate.proofs.Keeps.{makes}
use Rattle.baton_gate.proofs.gate.Gate.another.Goals as goal

pub another-place-requires-clause-rule : goal.another-place-requires-clause-rule
another-place-requires-clause-rule g c =
    let a = c.requires.gate in
    makes g.S.Kept.log g.S.Kept.party g.S.Kept.frame g.S.Kept.caught_up _ _ (a.alive, a.open_now) (sym a.numbered ∙ c.requires.first)
    (subst (λ (k : ℕ). k < parties c.args.first.now) (sym c.requires.next) c.requires.room)
