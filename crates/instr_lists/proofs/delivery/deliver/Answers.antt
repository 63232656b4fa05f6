use Rattle.std.proofs.Common.{◌≡◌, ◌∙◌, ◌-◌, ap}
use Rattle.flat_model.specs.Image.{Program}
use Rattle.block_finder.specs.Block.{IsBlock}
use Rattle.event_walk.specs.Matches.{classes_of}
use Rattle.watcher_api.specs.Acting.{ask_of, walks_of}
use Rattle.instr_lists.specs.Delivery.{no_asks, each_walks, StopsIn}
use Rattle.instr_lists.proofs.Hearing.{by_err}
use Rattle.instr_lists.proofs.Events.{all_stay, stops_first}
use Rattle.instr_lists.proofs.delivery.deliver.Goals as goal

pub returns-in_err-deliver_on-clause-delivered : goal.returns-in_err-deliver_on-clause-delivered
returns-in_err-deliver_on-clause-delivered g c =
    by_err
    (λ asks. (image : Program) → IsBlock image c.args.list.now.block.pc c.args.list.now.block
    → walks_of asks.first c.deliver_on.new.attached
    ≡ each_walks (classes_of image) c.args.list.now.sets c.args.raw.now (walks_of no_asks c.args.attached.now))
    (λ _. (image : Program) → IsBlock image c.args.list.now.block.pc c.args.list.now.block
    → StopsIn (classes_of image) c.args.list.now.sets c.args.raw.now c.args.attached.now c.deliver_on.new.attached)
    c.from_residual.result c.from_residual.ensures.0
    (λ why image is.
    stops_first (classes_of image) c.args.list.now.sets c.args.raw.now c.args.attached.now c.deliver_on.new.attached
    c.none-asks.result.first c.deliver_on.new.asks.first c.none-asks.ensures.none (c.in_err-deliver_on.ensures.delivered image is))

pub returns-clause-delivered : goal.returns-clause-delivered
returns-clause-delivered g c = λ image is.
    c.in_ok-deliver_on.ensures.delivered image is
    ∙ ap (λ l. each_walks (classes_of image) c.args.list.now.sets c.args.raw.now (walks_of l c.args.attached.now)) c.none-asks.ensures.none

pub returns-clause-others : goal.returns-clause-others
returns-clause-others g c = λ p one absent.
    c.in_ok-deliver_on.ensures.others p one absent ∙ (ap (ask_of p) c.none-asks.ensures.none ∙ all_stay 8 (p - 1))
