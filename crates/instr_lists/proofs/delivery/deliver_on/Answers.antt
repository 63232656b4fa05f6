use Rattle.std.proofs.Common.{◌≡◌, ◌∙◌, refl, sym, ap}
use Rattle.flat_model.specs.Image.{Program}
use Rattle.block_finder.specs.Block.{IsBlock}
use Rattle.event_walk.specs.Matches.{classes_of}
use Rattle.watcher_api.specs.Acting.{walks_of}
use Rattle.instr_lists.specs.Delivery.{each_hears, each_walks, StopsAmong}
use Rattle.instr_lists.proofs.Hearing.{by_err, absent_same}
use Rattle.instr_lists.proofs.Events.{walk_more, none_walk, has_classes, stops_at}
use Rattle.instr_lists.proofs.delivery.deliver_on.Goals as goal

pub loop-e-init : goal.loop-e-init
loop-e-init g c = record {
  same = refl;
  others = λ p one absent. refl;
  walked = λ classes has.
      sym (none_walk classes c.args.list.now.sets (walks_of c.args.asks.now.first c.args.attached.now));
}

pub loop-e-preserved : goal.loop-e-preserved
loop-e-preserved g c =
    let kept = c.loop-e.invariant in
    let hear = c.in_ok-hear_event.ensures in
    record {
      same = hear.same ∙ kept.same;
      others = λ p one absent.
          hear.others p one (absent_same p c.loop-e.attached c.args.attached.now kept.same absent) ∙ kept.others p one absent;
      walked = λ classes has.
          hear.heard classes has
          ∙ (ap (each_hears classes c.args.list.now.sets _) (kept.walked classes has)
          ∙ sym (walk_more classes c.args.list.now.sets c.args.raw.now c.loop-e.e-index _
          (walks_of c.args.asks.now.first c.args.attached.now) c.loop-e-test.true));
    }

pub returns-in_err-hear_event-clause-others : goal.returns-in_err-hear_event-clause-others
returns-in_err-hear_event-clause-others g c = λ p one absent.
    c.in_err-hear_event.ensures.others p one
    (absent_same p c.loop-e.attached c.args.attached.now c.loop-e.invariant.same absent)
    ∙ c.loop-e.invariant.others p one absent

pub returns-in_err-hear_event-clause-delivered : goal.returns-in_err-hear_event-clause-delivered
returns-in_err-hear_event-clause-delivered g c =
    let from = walks_of c.args.asks.now.first c.args.attached.now in
    by_err
    (λ _. (image : Program) → IsBlock image c.args.list.now.block.pc c.args.list.now.block
    → walks_of c.hear_event.new.asks.first c.hear_event.new.attached
    ≡ each_walks (classes_of image) c.args.list.now.sets c.args.raw.now from)
    (λ _. (image : Program) → IsBlock image c.args.list.now.block.pc c.args.list.now.block
    → StopsAmong (classes_of image) c.args.list.now.sets c.args.raw.now from
    (walks_of c.hear_event.new.asks.first c.hear_event.new.attached))
    c.from_residual.result c.from_residual.ensures.0
    (λ why image is.
    let has = has_classes image c.args.list.now.block is in
    stops_at (classes_of image) c.args.list.now.sets c.args.raw.now c.loop-e.e-index _ (walks_of c.loop-e.asks.first c.loop-e.attached)
    from (walks_of c.hear_event.new.asks.first c.hear_event.new.attached) c.loop-e-test.true
    (c.loop-e.invariant.walked (classes_of image) has) (c.in_err-hear_event.ensures.heard (classes_of image) has))
