use Rattle.std.proofs.Common.{◌≢◌, slice_index_or, None, arith, ◌∙◌, below_more, get_or-set_other, get_or-set_same}
use Rattle.guest_memory.proofs.Reserves.{ended_at}
use Rattle.guest_memory.proofs.reservations.end_others.Goals as goal

pub loop-k-preserved : goal.loop-k-preserved
loop-k-preserved c = record {
  done = below_more _ _ (λ j h. let ne : j ≢ c.loop-k.k = omega arith in get_or-set_other c.loop-k.reservations c.loop-k.k j c.left.result
      None ne ∙ c.loop-k.invariant.done j h) (get_or-set_same c.loop-k.reservations c.loop-k.k c.left.result None (omega arith)
      ∙ ended_at (λ j. slice_index_or c.args.reservations.now j None) c.args.hart c.args.addr c.args.n c.loop-k.k c.left.result
      (slice_index_or c.loop-k.reservations c.loop-k.k None) c.left.ensures (c.loop-k.invariant.left c.loop-k.k (omega arith)));
  left = λ j h. let ne : j ≢ c.loop-k.k = omega arith in get_or-set_other c.loop-k.reservations c.loop-k.k j c.left.result None ne
      ∙ c.loop-k.invariant.left j (omega (arith, h));
}
