use Rattle.std.proofs.Common.{arith}
use Rattle.flat_model.specs.declared.limits.TheConstants.{NO_PARTY}
use Rattle.host_state.proofs.ScriptLines.{come_at, rising_at, opens, opens_at_none, places_twice, comes, ends}
use Rattle.host_state.proofs.states.HostState.script_opening.Goals as goal

pub loop-line-init : goal.loop-line-init
loop-line-init g c = opens c.args.self.now c.requires.installed

pub place_line-requires-clause-come : goal.place_line-requires-clause-come
place_line-requires-clause-come g c = λ t at.
    comes NO_PARTY c.args.self.now c.loop-line.self c.loop-line.line 0 c.come_by-end.result t
    c.loop-line.invariant.places (opens_at_none c.args.self.now c.requires.installed)
    (come_at c.args.self.now _ 0 c.come_by-end.result c.self.view_is c.come_by-end.ensures.come) (omega arith) at

pub returns-in_err-place_line-clause-placed : goal.returns-in_err-place_line-clause-placed
returns-in_err-place_line-clause-placed g c =
    (places_twice NO_PARTY c.args.self.now c.loop-line.self c.place_line.new.self c.loop-line.invariant.places
    c.place_line.ensures.places).placed

pub loop-line-preserved : goal.loop-line-preserved
loop-line-preserved g c = record {
  places = places_twice NO_PARTY c.args.self.now c.loop-line.self c.place_line.new.self c.loop-line.invariant.places
      c.place_line.ensures.places;
  judging = c.in_ok-place_line.ensures.judged;
}

pub returns-clause-caught_up : goal.returns-clause-caught_up
returns-clause-caught_up g c =
    ends NO_PARTY c.loop-line.line 0 c.come_by-end.result c.args.self.now c.loop-line.self c.loop-line.invariant
    (opens_at_none c.args.self.now c.requires.installed)
    (rising_at c.args.self.now _ c.self.view_is c.come_by-end.ensures.rising)
    (come_at c.args.self.now _ 0 c.come_by-end.result c.self.view_is c.come_by-end.ensures.come) (omega arith)
