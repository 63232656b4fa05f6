use Rattle.std.proofs.Common.{◌<◌, ap, sym, subst, inr}
use Rattle.run_order.specs.InOrder.{Task}
use Rattle.host_state.specs.State.{StateValue}
use Rattle.hart_runner.proofs.Placed.{has_placed, failed_placed}
use Rattle.hart_runner.proofs.falling_due.place_due.Goals as goal

pub fail-requires : goal.fail-requires
fail-requires g c = record {
  hart = subst (λ (t : Task). c.args.no < t.machine.harts) (sym (ap (λ (s : StateValue). s.task) c.script_due.ensures.rest)) c.requires.low;
}

pub returns-in_default : goal.returns-in_default
returns-in_default g c =
    let did = c.script_due.ensures in
    let failed = c.fail.ensures.failed in
    record {
      placed = failed_placed c.args.no c.args.state.now c.script_due.new.self c.fail.new.self did.placed did.lets_be
          (ap (λ (s : StateValue). s.task) did.rest) (ap (λ (s : StateValue). s.past) failed) (ap (λ (s : StateValue). s.task) failed)
          (ap (λ (s : StateValue). s.short) failed);
    }

pub returns : goal.returns
returns g c =
    let did = c.script_due.ensures in
    record {
      placed = has_placed c.args.no c.args.state.now c.script_due.new.self did.placed did.lets_be (inr c.in-Ok.ensures.caught_up)
          (ap (λ (s : StateValue). s.task) did.rest);
    }
