use Rattle.std.proofs.Common.{◌≡◌, ◌+◌, ◌-◌, ◌&&◌, ◌∙◌, ℕ, length, nat_lt, ap, sym, arith}
use Rattle.flat_model.specs.Registry.{Plugins, owes}
use Rattle.plug_registry.specs.State.{RegistryState}
use Rattle.run_rules.specs.Guest.{plugins}
use Rattle.run_order.specs.InOrder.{task_run}
use Rattle.run_replay.proofs.Numbers.{none_of, some_of}
use Rattle.run_replay.proofs.judging.owes_any.Goals as goal

pub returns-then-outstanding : goal.returns-then-outstanding
returns-then-outstanding g c =
    let s = c.args.state.now in
    let r = plugins (task_run s.task) s.past in
    let p = c.loop-place.place + 1 in
    let is = ap (λ (x : Plugins). owes x c.args.no p) (sym c.task.ensures.order.plugins)
    ∙ sym (ap (λ (x : RegistryState). owes x.table c.args.no p) c.registry.ensures.registry)
    ∙ sym c.outstanding.ensures ∙ c.if-outstanding.true in
    record {
      owes = sym (some_of (λ k. owes r c.args.no k) 1 (length r.plugins) p (omega arith)
          (omega (arith, c.loop-place-test.true, c.loop-place.auto.place-end, c.plugin_count-place-end.ensures.count)) is);
    }

pub returns : goal.returns
returns g c =
    let s = c.args.state.now in
    let r = plugins (task_run s.task) s.past in
    record {
      owes = sym (none_of (λ k. owes r c.args.no k) 1 (length r.plugins) (λ p one most. c.loop-place.invariant p one
          (omega (arith, most, c.loop-place-test.false, c.loop-place.auto.place-end, c.plugin_count-place-end.ensures.count))));
    }
