use Rattle.std.proofs.Common.{◌∙◌, ap, map}
use Rattle.watcher_api.specs.Attachment.{box_at}
use Rattle.run_order.specs.Sets.{attachment_of}
use Rattle.run_order.specs.InOrder.{task_run}
use Rattle.host_state.specs.Registered.{box_rows}
use Rattle.host_state.proofs.KeptSums.{left_at_end}
use Rattle.host_state.proofs.KeptTallies.{lists_next, box_missing, box_tallied}
use Rattle.host_state.proofs.states.HostState.live_tally.Goals as goal

pub live_set-requires-clause-left : goal.live_set-requires-clause-left
live_set-requires-clause-left g c =
    left_at_end c.args.self.now _ c.self.view_is c.self.invariant c.requires.whole c.harts-hart-end.result c.loop-hart.hart
    c.harts-hart-end.ensures.harts c.loop-hart-test.true

pub unreachable-requires : goal.unreachable-requires
unreachable-requires g c =
    box_missing _ (c.requires.calls c.loop-hart.hart)
    (c.in_default.ensures.watcher ∙ ap (λ a. box_at c.args.sub a) c.live_set.ensures.set)

pub loop-hart-preserved : goal.loop-hart-preserved
loop-hart-preserved g c =
    ap (map (λ v. v.items)) c.in_ok-push.ensures.items
    ∙ lists_next (λ h. box_rows (box_at c.args.sub (attachment_of (task_run c.args.self.now.task) c.args.plugin h c.args.self.now.past)))
    c.loop-hart.hart c.loop-hart.lists.items c.in_ok-tally.field-0 c.loop-hart.invariant
    (box_tallied _ c.in-Some.watcher.now _ (c.in-Some.ensures.watcher ∙ ap (λ a. box_at c.args.sub a) c.live_set.ensures.set)
    c.in_ok-tally.ensures)
