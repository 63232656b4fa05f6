use Rattle.std.proofs.Common.{◌≡◌, ◌<◌, ◌&&◌, ◌∙◌, not, ap, sym, refl, subst, arith}
use Rattle.flat_model.specs.Registry.{is_complete, has_left}
use Rattle.host_state.specs.State.{StateValue}
use Rattle.run_replay.proofs.Tellings.{untold, is_ready, has_stayed, number_few, may_take, may_be_told, by_taker, closer_told, is_told}
use Rattle.run_replay.proofs.telling.tell_by.Goals as goal

pub returns-then-not-may_tell : goal.returns-then-not-may_tell
returns-then-not-may_tell g c = record {
  told = untold c.args.state.now c.args.party c.args.plugin c.task.ensures.order
      (c.if-not-may_tell.ensures.may
      ∙ ap (λ r. is_complete r.table c.args.plugin && not (has_left r.table c.args.party)) c.registry.ensures.registry);
}

pub overflow_add-taker : goal.overflow_add-taker
overflow_add-taker g c =
    let on = c.if-not-may_tell.ensures.may
    ∙ ap (λ r. is_complete r.table c.args.plugin && not (has_left r.table c.args.party)) c.registry.ensures.registry in
    let few = number_few c.args.state.now c.args.party c.args.plugin c.task.ensures.order on in
    omega (arith, few)

pub take_closing_of-closing-requires-clause-due : goal.take_closing_of-closing-requires-clause-due
take_closing_of-closing-requires-clause-due g c =
    may_take c.args.state.now c.args.party c.args.plugin c.task.ensures.order
    (c.if-not-may_tell.ensures.may
    ∙ ap (λ r. is_complete r.table c.args.plugin && not (has_left r.table c.args.party)) c.registry.ensures.registry)
    c.requires.none_out

pub done-requires-clause-open : goal.done-requires-clause-open
done-requires-clause-open g c = ap (λ s. s.short) c.take_closing_of-closing.ensures.rest ∙ c.requires.open

pub done-requires-clause-room : goal.done-requires-clause-room
done-requires-clause-room g c =
    subst (λ (s : StateValue). 0 < s.journal.spare) (sym c.take_closing_of-closing.ensures.rest) c.requires.room

pub done-requires-clause-legal : goal.done-requires-clause-legal
done-requires-clause-legal g c =
    let on = c.if-not-may_tell.ensures.may
    ∙ ap (λ r. is_complete r.table c.args.plugin && not (has_left r.table c.args.party)) c.registry.ensures.registry in
    let s = c.args.state.now in
    may_be_told c.args.party _ c.args.plugin s c.take_closing_of-closing.new.self c.take_closing_of-closing.ensures.out.past
    (ap (λ v. v.task) c.take_closing_of-closing.ensures.rest) c.task.ensures.order.legal
    (is_ready s c.args.party c.args.plugin c.task.ensures.order on) (has_stayed s c.args.party c.args.plugin c.task.ensures.order on)
    c.requires.caught_up

pub done-requires-clause-rule : goal.done-requires-clause-rule
done-requires-clause-rule g c =
    by_taker c.args.party _ c.args.plugin c.args.state.now c.take_closing_of-closing.new.self c.take_closing_of-closing.ensures.out.past
    (ap (λ v. v.task) c.take_closing_of-closing.ensures.rest) refl

pub done-requires-clause-told : goal.done-requires-clause-told
done-requires-clause-told g c =
    closer_told c.args.party _ c.args.plugin c.args.state.now c.take_closing_of-closing.new.self
    c.take_closing_of-closing.ensures.out.past (ap (λ v. v.task) c.take_closing_of-closing.ensures.rest)
    (g.C.Closer.notices c.take_closing_of-closing.result.closer) (g.C.Closer.notices c.in_ok-closer.closer)
    c.take_closing_of-closing.result.back c.in_ok-closer.ensures.told
    c.take_closing_of-closing.ensures.out.notices c.take_closing_of-closing.ensures.out.back

pub returns : goal.returns
returns g c = record {
  told = is_told c.args.party _ c.args.plugin c.args.state.now c.take_closing_of-closing.new.self
      c.take_closing_of-closing.ensures.out.past (ap (λ v. v.task) c.take_closing_of-closing.ensures.rest) c.done.new.self refl
      c.done.ensures.done (ap (λ v. v.task) c.done.ensures.rest)
      (ap (λ v. v.short) c.done.ensures.rest ∙ ap (λ v. v.short) c.take_closing_of-closing.ensures.rest) c.task-2.ensures.order;
}
