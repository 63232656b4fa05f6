use Rattle.std.proofs.Common.{◌≡◌, ◌∙◌, ◌≤◌, ap, sym, arith, length, Some, None}
use Rattle.std.specs.Prelude.{slice_get, option_and_then}
use Rattle.std.proofs.lemmas.Option.{slice_get_read}
use Rattle.flat_model.specs.declared.plugins.SetSpec.{SetSpec}
use Rattle.watcher_api.specs.Attachment.{called_kind}
use Rattle.host_state.specs.Registered.{called_by}
use Rattle.report_text.specs.Report.{set_in}
use Rattle.report_text.proofs.Coming.{sub_passes, subs_end, called_there}
use Rattle.report_text.proofs.LeftHarts.{small_set}
use Rattle.report_text.proofs.lines.find_call.Goals as goal

pub overflow_cast-result : goal.overflow_cast-result
overflow_cast-result g c =
    omega (
      arith,
      small_set c.args.state.now c.task.ensures.order c.args.plugin c.args.set,
      ap (λ (s : SetSpec). length s.subs) c.set_of.ensures.set,
      ap length c.as_slice-subs.ensures.subscriptions,
    )

pub returns-in-Some : goal.returns-in-Some
returns-in-Some g c = record {
  found = (
    called_there (set_in c.args.state.now.registry.table c.args.plugin c.args.set) c.as_slice-subs.result.now c.loop-sub.sub c.index-subs-sub.result
        (Some c.in-Some.kind) (c.as_slice-subs.ensures.subscriptions ∙ ap (λ (s : SetSpec). s.subs) c.set_of.ensures.set) c.loop-sub-test.true
        c.index-subs-sub.is c.in-Some.ensures.kind,
    c.loop-sub.invariant,
  );
}

pub loop-sub-preserved : goal.loop-sub-preserved
loop-sub-preserved g c =
    let none =
    called_there (set_in c.args.state.now.registry.table c.args.plugin c.args.set) c.as_slice-subs.result.now c.loop-sub.sub c.index-subs-sub.result
    c.kind_of.result (c.as_slice-subs.ensures.subscriptions ∙ ap (λ (s : SetSpec). s.subs) c.set_of.ensures.set) c.loop-sub-test.true
    c.index-subs-sub.is c.kind_of.ensures.kind in
    c.loop-sub.invariant
    ∙ sub_passes c.args.state.now c.args.plugin c.args.set c.loop-sub.sub
    (omega (arith, c.loop-sub-test.true, ap (λ (s : SetSpec). length s.subs) c.set_of.ensures.set, ap length c.as_slice-subs.ensures.subscriptions))
    (none ∙ c.in_default.is)

pub returns : goal.returns
returns g c = record {
  found = c.loop-sub.invariant
      ∙ subs_end c.args.state.now c.args.plugin c.args.set c.loop-sub.sub
      (omega (arith, ap (λ (s : SetSpec). length s.subs) c.set_of.ensures.set, ap length c.as_slice-subs.ensures.subscriptions));
}
