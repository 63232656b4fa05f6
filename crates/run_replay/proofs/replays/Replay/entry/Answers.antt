use Rattle.run_replay.proofs.replays.Replay.entry.Goals as goal

pub turn-requires-clause-some : goal.turn-requires-clause-some
turn-requires-clause-some g c = (c.requires.anew c.in-Turn.hart c.in-Turn.n c.in-Turn.is).1
