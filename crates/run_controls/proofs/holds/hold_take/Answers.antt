use Rattle.std.proofs.Common.{◌≢◌, ap, ◌∙◌, refl, sym, subst, Some}
use Rattle.std.proofs.lemmas.Option.{same_Some}
use Rattle.flat_model.specs.Log.{party}
use Rattle.baton_gate.specs.Logs.{GoesOn}
use Rattle.baton_gate.specs.Passes.{known, seen}
use Rattle.host_state.specs.State.{StateValue}
use Rattle.run_controls.proofs.Holding.{hand_then}
use Rattle.run_controls.proofs.Settled.{at_gate_by, seen_then}
use Rattle.run_controls.proofs.holds.hold_take.Goals as goal

pub returns-clause-controls : goal.returns-clause-controls
returns-clause-controls g c =
    let b = c.deref_mut.ensures.value in
    at_gate_by c.args.gate.now c.args.pass.now c.give.new.pass c.take_up-taken.new.state.past c.take_up-taken.result
    c.requires.controls c.give.ensures.gate
    (seen_then (known c.args.pass.now) (known c.take-state.new.pass) (known c.give.new.pass) _ c.take_up-taken.new.state.past
    c.take-state.ensures.pass.0 c.give.ensures.pass.0 c.requires.controls.free)
    (c.give.ensures.pass.1 ∙ c.take-state.ensures.pass.1)
    (λ t e. hand_then t c.party.result c.args.pass.now.party (seen c.args.pass.now) c.take_up-taken.new.state.past c.deref_mut.result.now
    c.take_up-taken.new.state (c.party.ensures ∙ c.take-state.ensures.pass.1)
    (same_Some t c.deref_mut.result.now.task (sym e ∙ c.take-state.ensures.frame ∙ ap (λ (s : StateValue). Some s.task) (sym b)))
    (subst (λ (s : StateValue). GoesOn (λ i. party i ≢ c.args.pass.now.party) (seen c.args.pass.now) s.past) (sym b)
    c.take-state.ensures.log) refl c.take_up-taken.result c.take_up-taken.ensures.taken)
