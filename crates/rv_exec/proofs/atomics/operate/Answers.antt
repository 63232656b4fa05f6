use Rattle.std.proofs.Common.{sym}
use Rattle.rv_exec.proofs.atomics.operate.Goals as goal

pub returns-clause-ended : goal.returns-clause-ended
returns-clause-ended c = record {
  each = λ services. rw (sym c.if-not-is_aligned.ensures.aligned) (c.operate_aligned.ensures.ended.each services);
}
