use Rattle.std.proofs.Common.{◌≡◌, ◌++◌, ◌≤◌, ◌∙◌, ℕ, sym, arith}
use Rattle.flat_model.specs.declared.plugins.Ask.TheVariants.{Stay}
use Rattle.event_walk.specs.Matches.{classes_of}
use Rattle.watcher_api.specs.Acting.{ask_of, walks_of, IsAbsent}
use Rattle.instr_lists.specs.Delivery.{no_asks, each_walks}
use Rattle.hart_runner.specs.Stretches.{events_of}
use Rattle.hart_runner.specs.Turns.{HasHeard}
use Rattle.hart_runner.proofs.Pieces.{both_ok, heard_none, heard_some}
use Rattle.hart_runner.proofs.delivering.hear_turn.Goals as goal

pub returns-then-len-eq0-clause-heard : goal.returns-then-len-eq0-clause-heard
returns-then-len-eq0-clause-heard g c =
    heard_none c.args.pieces.now c.args.seat.now c.none-seat.result (sym c.len.ensures.length ∙ c.if-len-eq0.true) c.none-seat.ensures.none

pub returns-clause-heard : goal.returns-clause-heard
returns-clause-heard g c =
    let seat = c.args.seat.now in
    let new = c.hear_blocks.new.seat in
    both_ok c.hear_blocks.result
    (walks_of new.asks.first new.attached
    ≡ each_walks (classes_of seat.image.value) seat.specs (seat.raw.events ++ events_of c.args.pieces.now) (walks_of no_asks seat.attached))
    ((p : ℕ) → 1 ≤ p → IsAbsent p seat.attached → ask_of p new.asks.first ≡ Stay)
    (HasHeard c.args.pieces.now seat new)
    (λ walks others.
    heard_some c.args.pieces.now seat new (omega (arith, c.len.ensures.length, c.if-len-eq0.false))
    c.hear_blocks.ensures.acts c.hear_blocks.ensures.seat walks others)
    c.hear_blocks.ensures.delivered c.hear_blocks.ensures.others
