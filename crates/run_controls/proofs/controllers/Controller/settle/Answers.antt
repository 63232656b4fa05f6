use Rattle.std.proofs.Common.{◌≢◌, ◌∙◌, ℕ, ap, sym, subst}
use Rattle.std.specs.Prelude.{MatchOption, option_map}
use Rattle.flat_model.specs.Log.{party}
use Rattle.baton_gate.specs.Logs.{Ahead}
use Rattle.baton_gate.specs.Passes.{carries, seen}
use Rattle.baton_gate.proofs.LogLemmas.{goes_nowhere}
use Rattle.run_order.specs.InOrder.{InHand}
use Rattle.run_controls.specs.Controlling.{HasPutBack}
use Rattle.run_controls.proofs.Settled.{found_none, kept_still, on_err, settled_then, told_at_gate, told_number, took_then}
use Rattle.run_controls.proofs.controllers.Controller.settle.Goals as goal

pub returns-then-not-branch-clause-takes : goal.returns-then-not-branch-clause-takes
returns-then-not-branch-clause-takes g c =
    let old = c.args.self.now.pass in
    took_then c.args.self.now.hand c.take_in_hand.new.hand (carries old) old.party (seen old) (seen c.take_in_hand.new.pass) old.takes
    c.take_in_hand.new.pass.takes c.requires.controls.of_gate.open_now (sym c.in_ok-take_in_hand.ensures.there ∙ c.if-not-branch.true)
    c.in_ok-take_in_hand.ensures.taken c.take_in_hand.ensures.takes

pub returns-then-not-branch-clause-settled : goal.returns-then-not-branch-clause-settled
returns-then-not-branch-clause-settled g c = λ t e.
    let old = c.args.self.now.pass in
    found_none c.args.self.now.hand c.take_in_hand.new.hand t old.party (seen old) (seen c.take_in_hand.new.pass)
    (sym c.in_ok-take_in_hand.ensures.there ∙ c.if-not-branch.true) (c.in_ok-take_in_hand.ensures.taken t e)

pub returns-in_err-tell-clause-kept : goal.returns-in_err-tell-clause-kept
returns-in_err-tell-clause-kept g c = λ t e.
    let old = c.args.self.now.pass in
    let now = seen c.take_in_hand.new.pass in
    on_err c.from_residual-in_err-tell.result
    (kept_still t old.party (seen old) now now c.args.self.now.hand c.take_in_hand.new.hand c.tell.new.hand
    (ap (option_map (λ (x : InHand). x.plugin)) c.in_err-tell.ensures.kept)
    (sym c.if-not-branch.false ∙ c.in_ok-take_in_hand.ensures.there) (c.in_ok-take_in_hand.ensures.taken t e)
    (goes_nowhere (λ i. party i ≢ old.party) now))

pub hold_done-requires-clause-controls : goal.hold_done-requires-clause-controls
hold_done-requires-clause-controls g c =
    told_at_gate c.args.gate.now c.take_in_hand.new.pass c.take_in_hand.new.hand c.tell.new.hand c.in_ok-tell.ensures.told
    c.take_in_hand.ensures.controls

pub returns-in_err-hold_done-clause-kept : goal.returns-in_err-hold_done-clause-kept
returns-in_err-hold_done-clause-kept g c = λ t e.
    let old = c.args.self.now.pass in
    let mid = seen c.take_in_hand.new.pass in
    let now = seen c.hold_done.new.pass in
    on_err c.from_residual-in_err-hold_done.result
    (kept_still t old.party (seen old) mid now c.args.self.now.hand c.take_in_hand.new.hand c.hold_done.new.hand
    (told_number c.take_in_hand.new.hand c.hold_done.new.hand (c.in_err-hold_done.ensures.kept ∙ c.in_ok-tell.ensures.told))
    (sym c.if-not-branch.false ∙ c.in_ok-take_in_hand.ensures.there) (c.in_ok-take_in_hand.ensures.taken t e)
    (subst (λ (k : ℕ). Ahead party now k mid) c.take_in_hand.ensures.party c.in_err-hold_done.ensures.added_none))

pub returns-clause-settled : goal.returns-clause-settled
returns-clause-settled g c = λ t e.
    let old = c.args.self.now.pass in
    let mid = seen c.take_in_hand.new.pass in
    let now = seen c.hold_done.new.pass in
    settled_then t old.party (seen old) mid now c.args.self.now.hand c.take_in_hand.new.hand c.tell.new.hand c.in_ok-tell.ensures.told
    (c.in_ok-take_in_hand.ensures.taken t e)
    (subst (λ (k : ℕ). MatchOption c.tell.new.hand ⊥ (λ (x : InHand). HasPutBack k x.plugin mid now)) c.take_in_hand.ensures.party
    c.in_ok-hold_done.ensures.done)
