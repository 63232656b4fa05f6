use Rattle.host_state.proofs.ScriptLines.{line_stands, places_by, judged_by}
use Rattle.host_state.proofs.states.HostState.place_line.Goals as goal

pub order_by-requires-clause-legal : goal.order_by-requires-clause-legal
order_by-requires-clause-legal g c =
    (line_stands c.args.self.now _ c.args.no c.args.line c.line-due.result.now c.in_ok-order.order c.self.view_is c.self.invariant
    c.script.ensures.rising c.requires.judging c.requires.there c.line-due.ensures.line c.requires.come c.in_default.ensures
    c.in_ok-order.ensures).legal

pub returns-clause-places : goal.returns-clause-places
returns-clause-places g c =
    places_by c.order_by.result c.args.self.now _ c.order_by.new.self c.args.no c.args.line c.in_ok-order.order c.self.view_is
    c.self.invariant
    (line_stands c.args.self.now _ c.args.no c.args.line c.line-due.result.now c.in_ok-order.order c.self.view_is c.self.invariant
    c.script.ensures.rising c.requires.judging c.requires.there c.line-due.ensures.line c.requires.come c.in_default.ensures
    c.in_ok-order.ensures) c.order_by.ensures.ordered c.order_by.ensures.unchanged c.order_by.ensures.rest

pub returns-clause-judged : goal.returns-clause-judged
returns-clause-judged g c =
    judged_by c.order_by.result c.args.self.now c.order_by.new.self c.args.no c.args.line c.in_ok-order.order
    (line_stands c.args.self.now _ c.args.no c.args.line c.line-due.result.now c.in_ok-order.order c.self.view_is c.self.invariant
    c.script.ensures.rising c.requires.judging c.requires.there c.line-due.ensures.line c.requires.come c.in_default.ensures
    c.in_ok-order.ensures) c.order_by.ensures.ordered c.order_by.ensures.rest
