use Rattle.std.proofs.Common.{◌∙◌, ◌-◌, ◌==◌, ap, arith, map}
use Rattle.std.specs.Prelude.{filter}
use Rattle.std.proofs.lemmas.Result.{IfOk-weaker}
use Rattle.watcher_api.specs.Tallies.{rows}
use Rattle.host_state.proofs.KeptSums.{still_live}
use Rattle.host_state.proofs.KeptTallies.{rows_told, box_of_last, rows_of_last}
use Rattle.host_state.proofs.states.HostState.tally.Goals as goal

pub live_tally-requires-clause-live : goal.live_tally-requires-clause-live
live_tally-requires-clause-live g c =
    still_live c.args.self.now _ c.self.view_is c.self.invariant c.args.plugin (c.args.set - 1) c.requires.whole.legal (omega arith)
    (cc (c.is_some.ensures, c.if-is_some.false, c.ending.ensures))

pub live_tally-requires-clause-calls : goal.live_tally-requires-clause-calls
live_tally-requires-clause-calls g c =
    box_of_last c.args.self.now _ c.self.view_is c.self.invariant c.args.plugin (c.args.set - 1) c.args.sub c.requires.calls
    c.requires.whole.legal (omega arith)
    (cc (c.is_some.ensures, c.if-is_some.false, c.ending.ensures))

pub returns-then-is_some : goal.returns-then-is_some
returns-then-is_some g c = record {
  rows = IfOk-weaker c.told_tally.result _ _
      (λ lists is. rows_told c.args.self.now _ c.self.view_is c.self.invariant c.args.plugin (c.args.set - 1) c.args.sub
      c.requires.calls c.told.result.now.boxes.items (map (λ v. v.items) lists.items) c.told.ensures.told.boxes
      (is ∙ ap (λ bs. map (λ b. rows b.watcher.kind b.watcher.events) (filter (λ b. b.sub == c.args.sub) bs)) c.as_slice.ensures.value))
      c.told_tally.ensures.rows;
}

pub returns-else-is_some : goal.returns-else-is_some
returns-else-is_some g c = record {
  rows = IfOk-weaker c.live_tally.result _ _
      (λ lists is. rows_of_last c.args.self.now _ c.self.view_is c.self.invariant c.args.plugin (c.args.set - 1) c.args.sub
      c.requires.calls c.requires.whole.legal (omega arith)
      (cc (c.is_some.ensures, c.if-is_some.false, c.ending.ensures))
      (map (λ v. v.items) lists.items) is)
      c.live_tally.ensures.rows;
}
