use Rattle.std.proofs.Common.{◌∙◌, List, ap, arith, length}
use Rattle.std.specs.Vec.Iter.{into_iter_items, into_iter_len}
use Rattle.watcher_api.specs.declared.held_acts.HeldAct.{HeldAct}
use Rattle.watcher_api.specs.Heard.{Heard}
use Rattle.host_state.specs.Closing.{boxes_in}
use Rattle.host_state.proofs.Boxes.{boxes_next, box_next, boxes_last, long_as}
use Rattle.host_state.proofs.closing.park_boxes.Goals as goal

pub park_box-requires : goal.park_box-requires
park_box-requires g c =
    let at = c.loop-act in
    let acts = into_iter_items at.act-iterator in
    let long = long_as at.boxes.items c.args.boxes.now.items (boxes_in c.args.hart at.sub acts) (boxes_in c.args.hart 0 c.args.held.items)
    at.invariant.rest in
    record {
      room = λ some. let next =
          box_next c.args.hart at.sub c.in-Some.act acts (into_iter_items c.next.new.self) c.in-Some.ensures.steps.0 some in
          omega (arith, next, long, c.requires.room, at.invariant.capacity);
    }

pub loop-act-preserved : goal.loop-act-preserved
loop-act-preserved g c =
    let at = c.loop-act in
    let short = ap (λ (xs : List (HeldAct Heard)). length xs) c.in-Some.ensures.steps.0 in
    record {
      count = omega arith;
      subs = omega arith;
      rest = boxes_next c.args.hart at.sub c.in-Some.act (into_iter_items at.act-iterator) (into_iter_items c.next.new.self) at.boxes.items
          c.park_box.new.boxes.items _ c.in-Some.ensures.steps.0 c.park_box.ensures.boxes at.invariant.rest;
      capacity = c.park_box.ensures.capacity ∙ at.invariant.capacity;
    }

pub returns : goal.returns
returns g c =
    let at = c.loop-act in
    record {
      boxes = boxes_last c.args.hart at.sub (into_iter_len at.act-iterator) (into_iter_items at.act-iterator) at.boxes.items _
          at.invariant.count c.in-None.ensures.steps.0 at.invariant.rest;
      capacity = at.invariant.capacity;
    }
