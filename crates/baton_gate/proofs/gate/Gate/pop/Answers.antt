use Rattle.baton_gate.proofs.gate.Gate.pop.Goals as goal

pub pop_later-requires-clause-rule : goal.pop_later-requires-clause-rule
pop_later-requires-clause-rule g c = rw (c.try_pop_as.ensures.queue.1, c.in-None.ensures.rule) c.requires.rule
