use Rattle.std.proofs.Common.{arith}
use Rattle.host_state.proofs.ScriptLines.{come_at, rising_at, begins, places_twice, comes, ends}
use Rattle.host_state.proofs.states.HostState.script_due.Goals as goal

pub loop-line-init : goal.loop-line-init
loop-line-init g c =
    begins c.args.self.now c.args.no c.total_before_turn.result c.come_by-first.result
    (rising_at c.args.self.now _ c.self.view_is c.come_by-first.ensures.rising) c.requires.turned c.total_before_turn.ensures.before
    (come_at c.args.self.now _ c.total_before_turn.result c.come_by-first.result c.self.view_is c.come_by-first.ensures.come)

pub place_line-requires-clause-come : goal.place_line-requires-clause-come
place_line-requires-clause-come g c = λ t at.
    comes c.args.no c.args.self.now c.loop-line.self c.loop-line.line c.total.result c.come_by-end.result t
    c.loop-line.invariant.places c.total.ensures.total
    (come_at c.args.self.now _ c.total.result c.come_by-end.result c.self.view_is c.come_by-end.ensures.come) (omega arith) at

pub returns-in_err-place_line-clause-placed : goal.returns-in_err-place_line-clause-placed
returns-in_err-place_line-clause-placed g c =
    (places_twice c.args.no c.args.self.now c.loop-line.self c.place_line.new.self c.loop-line.invariant.places
    c.place_line.ensures.places).placed

pub returns-in_err-place_line-clause-lets_be : goal.returns-in_err-place_line-clause-lets_be
returns-in_err-place_line-clause-lets_be g c =
    (places_twice c.args.no c.args.self.now c.loop-line.self c.place_line.new.self c.loop-line.invariant.places
    c.place_line.ensures.places).lets_be

pub loop-line-preserved : goal.loop-line-preserved
loop-line-preserved g c = record {
  places = places_twice c.args.no c.args.self.now c.loop-line.self c.place_line.new.self c.loop-line.invariant.places
      c.place_line.ensures.places;
  judging = c.in_ok-place_line.ensures.judged;
}

pub returns-clause-caught_up : goal.returns-clause-caught_up
returns-clause-caught_up g c =
    ends c.args.no c.loop-line.line c.total.result c.come_by-end.result c.args.self.now c.loop-line.self c.loop-line.invariant
    c.total.ensures.total (rising_at c.args.self.now _ c.self.view_is c.come_by-first.ensures.rising)
    (come_at c.args.self.now _ c.total.result c.come_by-end.result c.self.view_is c.come_by-end.ensures.come) (omega arith)
