use Rattle.baton_gate.proofs.gate.Gate.push.Goals as goal

pub push_later-requires-clause-rule : goal.push_later-requires-clause-rule
push_later-requires-clause-rule g c = rw (c.try_push_as.ensures.queue.1, c.in-Err.ensures.rule.1, c.in-Err.ensures.rule.0) c.requires.rule
