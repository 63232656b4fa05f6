use Rattle.std.proofs.Common.{◌≢◌, ap, ◌∙◌, refl, sym, subst, Some}
use Rattle.std.proofs.lemmas.Option.{same_Some}
use Rattle.flat_model.specs.Log.{party}
use Rattle.baton_gate.specs.Logs.{GoesOn}
use Rattle.baton_gate.specs.Passes.{known, seen}
use Rattle.run_order.specs.InOrder.{InOrder}
use Rattle.host_state.specs.State.{StateValue, stored_of}
use Rattle.run_controls.proofs.Holding.{hand_stays, no_hart_of}
use Rattle.run_controls.proofs.Settled.{at_gate, seen_then}
use Rattle.run_controls.proofs.controllers.Controller.order.Goals as goal

pub give_order-answer-requires-clause-no_hart : goal.give_order-answer-requires-clause-no_hart
give_order-answer-requires-clause-no_hart g c =
    let b = c.deref_mut.ensures.value in
    no_hart_of c.args.gate.now c.args.self.now.pass c.args.self.now.hand c.deref_mut.result.now.task c.party.result c.requires.controls
    (c.take-state.ensures.frame ∙ ap (λ (s : StateValue). Some s.task) (sym b)) (c.party.ensures ∙ c.take-state.ensures.pass.1)

pub returns-clause-controls : goal.returns-clause-controls
returns-clause-controls g c =
    let b = c.deref_mut.ensures.value in
    let old = c.args.self.now.pass in
    let s = c.deref_mut.result.now in
    let now = c.give_order-answer.new.state in
    at_gate c.args.gate.now old c.give.new.pass c.args.self.now.hand c.args.self.now.hand now.past c.requires.controls c.give.ensures.gate
    (seen_then (known old) (known c.take-state.new.pass) (known c.give.new.pass) _ now.past c.take-state.ensures.pass.0
    c.give.ensures.pass.0 c.requires.controls.free)
    (c.give.ensures.pass.1 ∙ c.take-state.ensures.pass.1)
    (λ t e apart has. hand_stays t c.party.result old.party (seen old) now.past s now (c.party.ensures ∙ c.take-state.ensures.pass.1)
    (same_Some t s.task (sym e ∙ c.take-state.ensures.frame ∙ ap (λ (s : StateValue). Some s.task) (sym b)))
    (subst (λ (s : StateValue). GoesOn (λ i. party i ≢ old.party) (seen old) s.past) (sym b) c.take-state.ensures.log) refl
    c.args.order c.give_order-answer.result c.args.self.now.hand apart
    (subst (λ (s : StateValue). InOrder s.task (stored_of s)) c.deref.ensures c.task.ensures.order)
    c.give_order-answer.ensures.part.task c.give_order-answer.ensures.ordered c.give_order-answer.ensures.denied has)
