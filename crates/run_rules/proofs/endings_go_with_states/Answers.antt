use Rattle.run_rules.proofs.Endings.{endings_go_with_states, last_sets_listen_while_live}
use Rattle.run_rules.proofs.endings_go_with_states.Goals as goal

pub returns : goal.returns
returns c = record { endings = endings_go_with_states; listening = last_sets_listen_while_live }
