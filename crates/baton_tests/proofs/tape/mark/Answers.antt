use Rattle.std.proofs.Common.{ℕ, List, sym, ap, subst, reverse}
use Rattle.baton_gate.specs.Logs.{Adds}
use Rattle.baton_tests.proofs.TapeLemmas.{marked}
use Rattle.baton_tests.proofs.tape.mark.Goals as goal

pub give-requires-clause-log : goal.give-requires-clause-log
give-requires-clause-log g c =
    subst (λ (y : ℕ × List (ℕ × ℕ)). Adds (λ m. m.0) (reverse c.push.new.self.items) y.0 y.1) (λ i. (c.party.ensures i, sym (ap (λ v. v.seen) c.take-tape.ensures.pass.0) i))
    (marked c.push.result c.take-tape.result.marks.items _ _ _ c.push.ensures.items)
