use Rattle.std.proofs.Common.{◌∙◌, ap, sym, subst, length, ◌<◌}
use Rattle.std.specs.Prelude.{slice_index}
use Rattle.run_order.specs.Sets.{attachment_of}
use Rattle.run_order.specs.InOrder.{task_run}
use Rattle.host_state.proofs.KeptSums.{left_at_end, entry_below, total_next}
use Rattle.host_state.proofs.states.HostState.live_sum.Goals as goal

pub live_set-requires-clause-left : goal.live_set-requires-clause-left
live_set-requires-clause-left g c =
    left_at_end c.args.self.now _ c.self.view_is c.self.invariant c.requires.whole c.harts-hart-end.result c.loop-hart.hart
    c.harts-hart-end.ensures.harts c.loop-hart-test.true

pub get-total-requires : goal.get-total-requires
get-total-requires g c =
    subst (λ xs. c.args.entry < length xs)
    (sym (c.column.ensures.column ∙ ap (λ a. a.column) c.live_set.ensures.set))
    (entry_below c.args.self.now _ c.self.view_is c.self.invariant c.args.plugin c.args.entry c.loop-hart.hart c.requires.entry)

pub loop-hart-preserved : goal.loop-hart-preserved
loop-hart-preserved g c =
    total_next c.args.entry (λ h. (attachment_of (task_run c.args.self.now.task) c.args.plugin h c.args.self.now.past).column)
    c.loop-hart.hart c.loop-hart.total c.get-total.result c.loop-hart.invariant
    (c.get-total.ensures ∙ ap (λ xs. slice_index xs c.args.entry) (c.column.ensures.column ∙ ap (λ a. a.column) c.live_set.ensures.set))
