use Rattle.replay_order.proofs.Entries.{turns_begin_anew}
use Rattle.replay_order.proofs.entries_follow.Goals as goal

pub returns-clause-turns : goal.returns-clause-turns
returns-clause-turns c = turns_begin_anew
