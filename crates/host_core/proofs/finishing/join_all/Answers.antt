use Rattle.std.proofs.Common.{◌∙◌, ap, arith, length}
use Rattle.std.specs.Vec.Iter.{into_iter_items}
use Rattle.baton_gate.specs.Course.{joined}
use Rattle.baton_gate.specs.Passes.{known}
use Rattle.host_core.specs.Berths.{IsOverAt}
use Rattle.host_core.proofs.JoinedPasses.{ahead_of_both, ahead_with, pass_at, still_same}
use Rattle.host_core.proofs.Loops.{first_of, rest_of}
use Rattle.host_core.proofs.finishing.join_all.Goals as goal

pub loop-runner-preserved : goal.loop-runner-preserved
loop-runner-preserved g c =
    let at = c.loop-runner in
    let gate = c.args.gate.now in
    let runner = c.in-Some.runner in
    let items = into_iter_items at.runner-iterator in
    let rest = into_iter_items c.next.new.self in
    let is = c.in-Some.ensures.steps.0 in
    let short = ap (λ xs. length xs) is in
    let over = first_of (IsOverAt gate) runner items rest is at.invariant.over in
    let knows = c.join.ensures.pass.0 ∙ ap (λ p. joined (known at.own) (known p)) c.into_pass.ensures.pass in
    record {
      count = omega arith;
      gate = c.join.ensures.gate;
      free = ap (λ v. v.holds) knows ∙ at.invariant.free;
      same = still_same gate c.args.own.now at.own c.join.new.pass runner.pass over.of_gate knows at.invariant.same;
      number = c.join.ensures.pass.1 ∙ at.invariant.number;
      over = rest_of (IsOverAt gate) runner items rest is at.invariant.over;
      ended = λ log all ahead.
          let both = ahead_of_both gate c.args.own.now at.own c.join.new.pass runner.pass over.of_gate knows log all in
          at.invariant.ended log both.0 (ahead_with pass_at log runner items rest is both.1 ahead);
    }
