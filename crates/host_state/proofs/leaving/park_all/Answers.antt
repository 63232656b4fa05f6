use Rattle.std.proofs.Common.{◌≡◌, ◌<◌, List, length, arith, ap, Some}
use Rattle.std.specs.Vec.Iter.{into_iter_items, into_iter_len}
use Rattle.watcher_api.specs.Attachment.{Attachment}
use Rattle.run_order.specs.Laws.{park_all}
use Rattle.host_state.specs.Tables.{rows_of}
use Rattle.host_state.proofs.Parking.{HasRow, first_of, rows_next, wide_at, wide_next, parks_next, parks_last}
use Rattle.host_state.proofs.leaving.park_all.Goals as goal

pub put_at-requires : goal.put_at-requires
put_at-requires g c =
    let at = c.loop-set in
    let rest = into_iter_items c.next.new.self in
    let has : HasRow (length at.rows) c.in-Some.set =
    first_of (HasRow (length at.rows)) (into_iter_items at.set-iterator) c.in-Some.set rest c.in-Some.ensures.steps.0 at.invariant.rows in
    let below : c.from.result < length at.rows = omega arith in
    record {
      row = below;
      place = wide_at c.args.no at.rows at.invariant.wide c.from.result below c.from-in-loop-set.result c.from-in-loop-set.ensures;
    }

pub loop-set-preserved : goal.loop-set-preserved
loop-set-preserved g c =
    let at = c.loop-set in
    let rest = into_iter_items c.next.new.self in
    let is = c.in-Some.ensures.steps.0 in
    let gone = c.in-Some.ensures.steps.1 in
    let short = ap (λ (sets : List Attachment). length sets) is in
    let long : length at.rows ≡ length c.put_at.new.rows = omega arith in
    let has = first_of (HasRow (length at.rows)) (into_iter_items at.set-iterator) c.in-Some.set rest is at.invariant.rows in
    let below : c.from.result < length at.rows = omega arith in
    record {
      count = omega arith;
      rest = parks_next c.args.no c.from.result c.from-in-loop-set.result c.in-Some.set (into_iter_items at.set-iterator) rest
          (rows_of at.rows) (rows_of c.put_at.new.rows) (park_all c.args.no c.args.sets.items (rows_of c.args.rows.now)) is
          c.put_at.ensures.put (omega arith) c.from-in-loop-set.ensures at.invariant.rest;
      rows = rows_next (length at.rows) (length c.put_at.new.rows) c.in-Some.set (into_iter_items at.set-iterator) rest is long
          at.invariant.rows;
      wide = wide_next c.args.no at.rows at.invariant.wide c.from.result below c.put_at.new.rows c.from-in-loop-set.result
          (Some c.in-Some.set) c.put_at.ensures.put;
    }

pub returns : goal.returns
returns g c =
    let at = c.loop-set in
    record {
      parked = parks_last c.args.no (into_iter_len at.set-iterator) (into_iter_items at.set-iterator) (rows_of at.rows)
          (park_all c.args.no c.args.sets.items (rows_of c.args.rows.now)) at.invariant.count c.in-None.ensures.steps.0 at.invariant.rest;
    }
