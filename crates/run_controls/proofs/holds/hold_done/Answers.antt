use Rattle.std.proofs.Common.{◌≡◌, ◌≢◌, ap, ◌∙◌, refl, sym, subst, None, Some}
use Rattle.std.proofs.lemmas.Option.{same_Some}
use Rattle.flat_model.specs.Log.{party}
use Rattle.baton_gate.specs.Logs.{GoesOn}
use Rattle.baton_gate.specs.Passes.{known, seen}
use Rattle.run_order.specs.InOrder.{InHand, InOrder}
use Rattle.host_state.specs.State.{StateValue, stored_of}
use Rattle.run_controls.specs.Hands.{IsOnItsWay}
use Rattle.run_controls.proofs.Holding.{hand_at, hand_done, no_hart_of, some_then}
use Rattle.run_controls.proofs.Settled.{at_gate, seen_then}
use Rattle.run_controls.proofs.holds.hold_done.Goals as goal

pub put_back-done-requires-clause-no_hart : goal.put_back-done-requires-clause-no_hart
put_back-done-requires-clause-no_hart g c =
    let b = c.deref_mut.ensures.value in
    no_hart_of c.args.gate.now c.args.pass.now c.args.hand.now c.deref_mut.result.now.task c.party.result c.requires.controls
    (c.take-state.ensures.frame ∙ ap (λ (s : StateValue). Some s.task) (sym b)) (c.party.ensures ∙ c.take-state.ensures.pass.1)

pub put_back-done-requires-clause-in_hand : goal.put_back-done-requires-clause-in_hand
put_back-done-requires-clause-in_hand g c =
    let b = c.deref_mut.ensures.value in
    let s = c.deref_mut.result.now in
    let frame = c.take-state.ensures.frame ∙ ap (λ (s : StateValue). Some s.task) (sym b) in
    let at = c.requires.controls.controls s.task frame in
    some_then (IsOnItsWay s.task c.party.result s.past) (λ (x : InHand). x.back ≡ None) c.args.hand.now
    (hand_at s.task c.party.result c.args.pass.now.party (seen c.args.pass.now) s.past s s (c.party.ensures ∙ c.take-state.ensures.pass.1)
    refl
    (subst (λ (s : StateValue). GoesOn (λ i. party i ≢ c.args.pass.now.party) (seen c.args.pass.now) s.past) (sym b)
    c.take-state.ensures.log) refl c.args.hand.now at.no_replay
    (subst (λ (s : StateValue). InOrder s.task (stored_of s)) (c.deref.ensures ∙ sym b) c.task.ensures.order) at.in_hand)
    c.requires.told

pub returns-clause-controls : goal.returns-clause-controls
returns-clause-controls g c =
    let b = c.deref_mut.ensures.value in
    let old = c.args.pass.now in
    let s = c.deref_mut.result.now in
    let now = c.put_back-done.new.state in
    let number = c.party.ensures ∙ c.take-state.ensures.pass.1 in
    let ahead = subst (λ (s : StateValue). GoesOn (λ i. party i ≢ old.party) (seen old) s.past) (sym b) c.take-state.ensures.log in
    let order = subst (λ (s : StateValue). InOrder s.task (stored_of s)) (c.deref.ensures ∙ sym b) c.task.ensures.order in
    at_gate c.args.gate.now old c.give.new.pass c.args.hand.now c.put_back-done.new.hand now.past c.requires.controls c.give.ensures.gate
    (seen_then (known old) (known c.take-state.new.pass) (known c.give.new.pass) _ now.past c.take-state.ensures.pass.0
    c.give.ensures.pass.0 c.requires.controls.free)
    (c.give.ensures.pass.1 ∙ c.take-state.ensures.pass.1)
    (λ t e apart has.
    let task = same_Some t s.task (sym e ∙ c.take-state.ensures.frame ∙ ap (λ (s : StateValue). Some s.task) (sym b)) in
    hand_done t c.party.result old.party (seen old) now.past s now number task ahead refl c.args.hand.now c.put_back-done.new.hand
    c.put_back-done.result
    (hand_at t c.party.result old.party (seen old) now.past s now number task ahead refl c.args.hand.now apart order has)
    c.put_back-done.ensures.empty c.put_back-done.ensures.kept c.put_back-done.ensures.unchanged)
