use Rattle.run_order.specs.InOrder.{Task}
use Rattle.std.proofs.Common.{◌+◌, map}
use Rattle.host_core.proofs.LastStates.{is_run_of, may_finish}
use Rattle.host_core.proofs.MappedJobs.{to_ok}
use Rattle.host_core.proofs.Planned.{opening_is_planned}
use Rattle.host_core.proofs.running.run.Goals as goal

pub finish-requires : goal.finish-requires
finish-requires g c =
    let s = c.in_ok-gate.field-0 in
    let task : Task = record {
      machine = record { image = c.args.image.value; harts = c.args.harts; limit = c.args.limit };
      mode = c.args.mode;
      plan = c.args.plan;
    } in
    record {
      over = may_finish (λ r. r.pass) s.gate s.own s.runners.items c.in_ok-runners.runners.items task c.in_ok-gate.ensures.own
          c.in_ok-gate.ensures.harts c.in_ok-runners.ensures.over c.in_ok-runners.ensures.parties;
    }

pub returns : goal.returns
returns g c =
    let s = c.in_ok-gate.field-0 in
    let task : Task = record {
      machine = record { image = c.args.image.value; harts = c.args.harts; limit = c.args.limit };
      mode = c.args.mode;
      plan = c.args.plan;
    } in
    record {
      run = to_ok c.finish.result _ _
          (λ x done. is_run_of s.gate s.own (map (λ r. r.pass) c.in_ok-runners.runners.items) task (c.args.harts + 1) c.args.harts x
          c.in_ok-gate.ensures.own (opening_is_planned _ c.args.plan.installs c.in_ok-gate.ensures.log) done)
          c.finish.ensures.finished;
    }
