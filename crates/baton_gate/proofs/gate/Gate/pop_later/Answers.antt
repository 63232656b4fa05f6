use Rattle.baton_gate.proofs.gate.Gate.pop_later.Goals as goal

pub try_pop_as-requires-clause-rule : goal.try_pop_as-requires-clause-rule
try_pop_as-requires-clause-rule g c = rw (c.loop.invariant.same.1, c.loop.invariant.known) c.requires.rule
