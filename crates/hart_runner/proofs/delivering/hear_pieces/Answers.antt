use Rattle.std.proofs.Common.{◌∙◌, refl}
use Rattle.event_walk.specs.Matches.{classes_of}
use Rattle.watcher_api.specs.Acting.{walks_of}
use Rattle.instr_lists.proofs.Hearing.{absent_same}
use Rattle.hart_runner.proofs.Pieces.{none_yet, piece_more}
use Rattle.hart_runner.proofs.delivering.hear_pieces.Goals as goal

pub loop-piece-init : goal.loop-piece-init
loop-piece-init g c = record {
  serves = c.requires.serves;
  lists = c.requires.lists;
  acts = refl;
  walked = none_yet (classes_of c.args.image.now) c.args.specs.now (walks_of c.args.asks.now.first c.args.attached.now);
  others = λ p one absent. refl;
}

pub loop-piece-preserved : goal.loop-piece-preserved
loop-piece-preserved g c =
    let kept = c.loop-piece.invariant in
    let hear = c.in_ok-hear_piece.ensures in
    record {
      serves = hear.serves;
      lists = hear.lists;
      acts = hear.acts ∙ kept.acts;
      walked = piece_more (classes_of c.args.image.now) c.args.specs.now c.args.pieces.now c.loop-piece.piece-index c.piece-item.result
          (walks_of c.loop-piece.asks.first c.loop-piece.attached) (walks_of c.args.asks.now.first c.args.attached.now) _
          c.loop-piece-test.true c.piece-item.is kept.walked hear.delivered;
      others = λ p one absent.
          hear.others p one (absent_same p c.loop-piece.attached c.args.attached.now kept.acts absent) ∙ kept.others p one absent;
    }
