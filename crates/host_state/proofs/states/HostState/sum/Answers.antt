use Rattle.std.proofs.Common.{◌∙◌, ◌-◌, arith}
use Rattle.host_state.proofs.KeptSums.{still_live, entry_of_last, sum_of_last, columns_wide}
use Rattle.host_state.proofs.states.HostState.sum.Goals as goal

pub sum-requires : goal.sum-requires
sum-requires g c =
    columns_wide c.args.self.now _ c.self.view_is c.self.invariant c.args.plugin (c.args.set - 1) c.args.entry c.as_slice.result.now
    c.requires.entry (c.as_slice.ensures.value ∙ c.told.ensures.told.columns)

pub live_sum-requires-clause-live : goal.live_sum-requires-clause-live
live_sum-requires-clause-live g c =
    still_live c.args.self.now _ c.self.view_is c.self.invariant c.args.plugin (c.args.set - 1) c.requires.whole.legal (omega arith)
    (cc (c.is_some.ensures, c.if-is_some.false, c.ending.ensures))

pub live_sum-requires-clause-entry : goal.live_sum-requires-clause-entry
live_sum-requires-clause-entry g c =
    entry_of_last c.args.self.now _ c.self.view_is c.self.invariant c.args.plugin (c.args.set - 1) c.requires.whole.legal (omega arith)
    (cc (c.is_some.ensures, c.if-is_some.false, c.ending.ensures))
    c.args.entry c.requires.entry

pub returns-else-is_some : goal.returns-else-is_some
returns-else-is_some g c = record {
  sum = sum_of_last c.args.self.now _ c.self.view_is c.self.invariant c.args.plugin (c.args.set - 1) c.requires.whole.legal (omega arith)
      (cc (c.is_some.ensures, c.if-is_some.false, c.ending.ensures))
      c.args.entry c.live_sum.result c.live_sum.ensures.sum;
}
