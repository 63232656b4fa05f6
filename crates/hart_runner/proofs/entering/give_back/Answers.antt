use Rattle.std.proofs.Common.{sym, ap, subst, ◌∙◌}
use Rattle.std.specs.List.Sorted.{IsNonDecreasingBy}
use Rattle.std.proofs.lemmas.Bool.{false≢true}
use Rattle.flat_model.specs.Registry.{owes}
use Rattle.run_order.specs.InOrder.{Task}
use Rattle.plug_registry.specs.State.{RegistryState}
use Rattle.hart_runner.proofs.GivingBacks.{is_legal, is_returned, one_written}
use Rattle.hart_runner.proofs.entering.give_back.Goals as goal

pub collect-requires-clause-legal : goal.collect-requires-clause-legal
collect-requires-clause-legal g c =
    is_legal c.args.state.now c.args.no c.args.plugin _ _ c.task.ensures.order c.requires.may
    (sym (ap (λ (r : RegistryState). owes r.table c.args.no c.args.plugin) c.registry.ensures.registry)
    ∙ sym c.outstanding-owed.ensures ∙ c.if-owed.true)

pub returns-then-owed : goal.returns-then-owed
returns-then-owed g c =
    let is = c.collect.ensures in
    let back = is_returned c.args.state.now c.collect.new.self c.args.no c.args.plugin _ _ c.collect.new.attached c.collect.new.specs
    c.task.ensures.order (subst (λ (t : Task). IsNonDecreasingBy (λ t. t.when) t.plan.script) c.task.ensures.task c.script.ensures.rising)
    c.requires.may
    (sym (ap (λ (r : RegistryState). owes r.table c.args.no c.args.plugin) c.registry.ensures.registry)
    ∙ sym c.outstanding-owed.ensures ∙ c.if-owed.true)
    (record { back = is.back; rest = is.rest; attached = is.attached; filters = is.specs }) in
    record {
      may = back.may;
      returned = back.returned;
      owes = back.owes;
      nothing = λ none. absurd (false≢true (sym none ∙ c.if-owed.true));
      wrote = λ gave. one_written c.args.no c.args.plugin _ _ is.back;
      room = is.room;
    }
