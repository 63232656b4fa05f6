use Rattle.std.proofs.Common.{◌<◌, ◌∙◌, ℕ, None, ap, sym, subst}
use Rattle.std.specs.Prelude.{MatchOption, slice_index_or}
use Rattle.std.specs.List.Sorted.{IsNonDecreasingBy}
use Rattle.flat_model.specs.Image.{Program}
use Rattle.run_order.specs.InOrder.{Task}
use Rattle.run_replay.specs.First.{IsFirstBerth}
use Rattle.run_replay.proofs.FirstBerths.{opened_first}
use Rattle.run_replay.proofs.opening.opened.Goals as goal

pub returns-clause-following : goal.returns-clause-following
returns-clause-following g c =
    let s = c.in_ok-state.state in
    opened_first _ s c.in_ok-berths.berths.items c.in_ok-blocks.blocks c.in_ok-state.ensures.task c.in_ok-state.ensures.log
    c.task.ensures.order c.in_ok-state.ensures.caught_up c.in_ok-state.ensures.open
    (subst (λ (t : Task). IsNonDecreasingBy (λ t. t.when) t.plan.script) c.task.ensures.task c.script.ensures.rising)
    c.requires.limits c.in_ok-berths.ensures.count
    (subst (λ (i : Program). (h : ℕ) → h < c.args.harts → MatchOption (slice_index_or c.in_ok-berths.berths.items h None) ⊥
    (IsFirstBerth i c.args.harts c.args.mode h)) c.deref.ensures c.in_ok-berths.ensures.first) c.in_ok-blocks.ensures.fresh

pub returns-clause-legal : goal.returns-clause-legal
returns-clause-legal g c = c.task.ensures.order.legal
