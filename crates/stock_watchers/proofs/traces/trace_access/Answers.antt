use Rattle.std.proofs.Common.{arith}
use Rattle.std.proofs.lemmas.Grind.{common_steps}
use Rattle.stock_watchers.proofs.Tracing.{traced_push, traced_pass, traced_full}
use Rattle.stock_watchers.proofs.traces.trace_access.Goals as goal

pub returns-in_ok-push : goal.returns-in_ok-push
returns-in_ok-push c = λ heard is. grind (arith, common_steps, traced_push)

pub returns-in_default : goal.returns-in_default
returns-in_default c = λ heard is. grind (arith, common_steps, traced_pass)

pub returns-else-len-lt-MOST_ROWS : goal.returns-else-len-lt-MOST_ROWS
returns-else-len-lt-MOST_ROWS c = λ heard is. grind (arith, common_steps, traced_full)
