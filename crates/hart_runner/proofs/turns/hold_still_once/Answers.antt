use Rattle.std.proofs.Common.{◌≢◌, ap, ◌∙◌, sym, subst, Some}
use Rattle.std.proofs.lemmas.Option.{same_Some}
use Rattle.flat_model.specs.Log.{party}
use Rattle.baton_gate.specs.Logs.{GoesOn}
use Rattle.baton_gate.specs.Passes.{seen}
use Rattle.run_order.specs.InOrder.{InOrder}
use Rattle.host_state.specs.State.{StateValue, stored_of}
use Rattle.hart_runner.specs.Parts.{IsStillPart}
use Rattle.hart_runner.proofs.Between.{comes_still, adds_own, added_at, part_gone}
use Rattle.hart_runner.proofs.turns.hold_still_once.Goals as goal

pub take_still_part-held-requires-clause-comes : goal.take_still_part-held-requires-clause-comes
take_still_part-held-requires-clause-comes g c =
    let b = c.deref_mut.ensures.value in
    comes_still c.args.place.now c.deref_mut.result.now c.args.pass.now.party (seen c.args.pass.now)
    (subst (λ (s : StateValue). InOrder s.task (stored_of s)) (c.deref.ensures ∙ sym b) c.task.ensures.order)
    (subst (λ (s : StateValue). GoesOn (λ i. party i ≢ c.args.pass.now.party) (seen c.args.pass.now) s.past) (sym b)
    c.take-state.ensures.log)
    (c.requires.sits c.deref_mut.result.now.task (c.take-state.ensures.frame ∙ ap (λ (s : StateValue). Some s.task) (sym b)))
    c.requires.still

pub give-requires-clause-log : goal.give-requires-clause-log
give-requires-clause-log g c =
    let b = c.deref_mut.ensures.value in
    added_at c.args.pass.now.party c.take-state.new.pass.party c.deref_mut.result.now.past (seen c.take-state.new.pass) _
    c.take-state.ensures.pass.1 (ap (λ v. v.seen) c.take-state.ensures.pass.0 ∙ ap (λ (s : StateValue). s.past) (sym b))
    (adds_own c.args.place.now c.deref_mut.result.now.task c.args.pass.now.party (seen c.args.pass.now) c.deref_mut.result.now
    c.take_still_part-held.new.state
    (c.requires.sits c.deref_mut.result.now.task (c.take-state.ensures.frame ∙ ap (λ (s : StateValue). Some s.task) (sym b)))
    c.take_still_part-held.ensures.hold)

pub returns-clause-gone : goal.returns-clause-gone
returns-clause-gone g c = λ t e.
    let b = c.deref_mut.ensures.value in
    part_gone (λ hold u taken past seat. IsStillPart hold u taken past seat c.take_still_part-held.new.place) c.args.place.now _
    c.args.pass.now.party (seen c.args.pass.now) _ t
    c.deref_mut.result.now c.take_still_part-held.new.state
    (subst (λ (s : StateValue). GoesOn (λ i. party i ≢ c.args.pass.now.party) (seen c.args.pass.now) s.past) (sym b)
    c.take-state.ensures.log)
    (ap (λ v. v.seen) c.give.ensures.pass.0)
    (same_Some t c.deref_mut.result.now.task (sym e ∙ c.take-state.ensures.frame ∙ ap (λ (s : StateValue). Some s.task) (sym b)))
    (c.requires.sits c.deref_mut.result.now.task (c.take-state.ensures.frame ∙ ap (λ (s : StateValue). Some s.task) (sym b)))
    c.take_still_part-held.ensures.hold c.take_still_part-held.ensures.part
