use Rattle.std.proofs.Common.{◌++◌, ◌∙◌, List, ap, arith, length}
use Rattle.watcher_api.specs.declared.closers.Parked.{Parked}
use Rattle.watcher_api.specs.Heard.{Heard}
use Rattle.host_state.proofs.Boxes.{boxes_are, as_many}
use Rattle.host_state.proofs.closing.park_set.Goals as goal

pub park_boxes-requires : goal.park_boxes-requires
park_boxes-requires g c =
    let parts = c.into_parts-held in
    let held = parts.result.0.items in
    record {
      few = omega (arith, as_many c.args.set held parts.ensures.acts, c.requires.few);
      room = omega (
        arith,
        ap (λ (bs : List (Parked Heard)). length bs) (boxes_are c.args.hart c.args.set held parts.ensures.acts parts.ensures.heard),
        c.requires.room,
      );
    }

pub returns-clause-boxes : goal.returns-clause-boxes
returns-clause-boxes g c =
    c.park_boxes.ensures.boxes ∙ ap (λ (bs : List (Parked Heard)). c.args.boxes.now.items ++ bs)
    (boxes_are c.args.hart c.args.set c.into_parts-held.result.0.items c.into_parts-held.ensures.acts c.into_parts-held.ensures.heard)
