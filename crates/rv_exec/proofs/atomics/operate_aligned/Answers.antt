use Rattle.guest_memory.specs.Memory.{spans_in}
use Rattle.rv_exec.specs.Sharing.{shared_of}
use Rattle.rv_exec.proofs.Amos.{other_is_amo}
use Rattle.rv_exec.proofs.atomics.operate_aligned.Goals as goal

pub returns-in-Lr-clause-ended : goal.returns-in-Lr-clause-ended
returns-in-Lr-clause-ended c = rw c.in-Lr.is c.load_reserved.ensures.ended

pub returns-in-Sc-clause-ended : goal.returns-in-Sc-clause-ended
returns-in-Sc-clause-ended c = rw c.in-Sc.is c.store_conditional.ensures.ended

pub returns-in_default : goal.returns-in_default
returns-in_default c = record {
  ended = record {
    each = λ services.
        rw (other_is_amo (spans_in c.args.memory.now) c.args.no c.args.hart.now (shared_of c.args.memory.now services)
        c.args.what.op c.args.what.wide c.args.what.rd c.args.what.addr c.args.what.value c.in_default.not-Lr c.in_default.not-Sc)
        (c.modify.ensures.ended.each services);
  };
  layout = c.modify.ensures.layout;
}
