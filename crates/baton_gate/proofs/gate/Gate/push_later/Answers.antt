use Rattle.baton_gate.proofs.gate.Gate.push_later.Goals as goal

pub try_push_as-requires-clause-rule : goal.try_push_as-requires-clause-rule
try_push_as-requires-clause-rule g c = rw (c.loop.invariant.same.1, c.loop.invariant.known, c.loop.invariant.baton) c.requires.rule
