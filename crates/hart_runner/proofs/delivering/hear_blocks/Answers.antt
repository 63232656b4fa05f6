use Rattle.std.proofs.Common.{◌≡◌, ◌++◌, ◌≤◌, ◌∙◌, ℕ, ap}
use Rattle.flat_model.specs.declared.plugins.Ask.TheVariants.{Stay}
use Rattle.event_walk.specs.Matches.{classes_of}
use Rattle.watcher_api.specs.Acting.{ask_of, walks_of, IsAbsent}
use Rattle.instr_lists.specs.Delivery.{no_asks, each_walks}
use Rattle.instr_lists.proofs.Hearing.{absent_same}
use Rattle.hart_runner.specs.Stretches.{events_of}
use Rattle.hart_runner.proofs.Pieces.{hears_on, still_ok}
use Rattle.hart_runner.proofs.delivering.hear_blocks.Goals as goal

pub returns-clause-delivered : goal.returns-clause-delivered
returns-clause-delivered g c =
    let old = c.args.seat.now in
    let mid = c.hear_first.new.seat in
    let first = c.in_ok-hear_first.ensures in
    still_ok c.hear_pieces.result
    (walks_of c.hear_pieces.new.asks.first c.hear_pieces.new.attached
    ≡ each_walks (classes_of c.deref.result.now) mid.specs (events_of c.args.pieces.now) (walks_of mid.asks.first mid.attached))
    (walks_of c.hear_pieces.new.asks.first c.hear_pieces.new.attached
    ≡ each_walks (classes_of old.image.value) old.specs (old.raw.events ++ events_of c.args.pieces.now) (walks_of no_asks old.attached))
    (hears_on old.image.value c.deref.result.now old.specs mid.specs old.raw.events (events_of c.args.pieces.now)
    (walks_of no_asks old.attached) (walks_of mid.asks.first mid.attached)
    (walks_of c.hear_pieces.new.asks.first c.hear_pieces.new.attached)
    (c.deref.ensures ∙ ap (λ s. s.image.value) first.seat) (ap (λ s. s.specs) first.seat) first.delivered)
    c.hear_pieces.ensures.delivered

pub returns-clause-others : goal.returns-clause-others
returns-clause-others g c =
    let old = c.args.seat.now in
    let mid = c.hear_first.new.seat in
    let first = c.in_ok-hear_first.ensures in
    still_ok c.hear_pieces.result
    ((p : ℕ) → 1 ≤ p → IsAbsent p mid.attached → ask_of p c.hear_pieces.new.asks.first ≡ ask_of p mid.asks.first)
    ((p : ℕ) → 1 ≤ p → IsAbsent p old.attached → ask_of p c.hear_pieces.new.asks.first ≡ Stay)
    (λ others p one absent.
    others p one (absent_same p mid.attached old.attached first.acts absent) ∙ first.others p one absent)
    c.hear_pieces.ensures.others
