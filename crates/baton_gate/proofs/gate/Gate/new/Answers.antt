use Rattle.std.proofs.Common.{ap, ◌∙◌, arith}
use Rattle.baton_gate.specs.Course.{one_more}
use Rattle.baton_gate.proofs.NewPasses.{next_more, made_new, first_new, all_new}
use Rattle.baton_gate.proofs.gate.Gate.new.Goals as goal

pub loop-number-preserved : goal.loop-number-preserved
loop-number-preserved g c =
    let before = c.loop-number.invariant in
    let made = c.another-next.ensures in
    record {
      first_of = made.gate.0;
      first_is = made.first ∙ ap one_more before.first_is;
      first_number = made.same.0 ∙ before.first_number;
      first_takes = made.same.1 ∙ before.first_takes;
      count = omega (arith, c.in_ok-push.ensures.len);
      next = next_more _ c.loop-number.passes.items c.push.new.self.items c.another-next.result c.loop-number.number c.args.parties (g.S.Kept.log c.args.state) (g.S.Kept.frame c.args.state)
          before.next c.in_ok-push.ensures.items (omega arith) (made_new _ c.loop-number.first _ _ _ _ _ made.gate.1 made.next.0 before.first_is made.next.1 made.next.2);
    }

pub returns-clause-passes : goal.returns-clause-passes
returns-clause-passes g c =
    let at_end = c.loop-number.invariant in
    all_new _ c.loop-number.first c.loop-number.passes.items c.insert.new.self.items c.args.parties (g.S.Kept.log c.args.state) (g.S.Kept.frame c.args.state) c.in_ok-insert.ensures.items
    (first_new _ _ c.loop-number.number _ _ _ at_end.first_of at_end.first_is at_end.first_number at_end.first_takes) at_end.next
