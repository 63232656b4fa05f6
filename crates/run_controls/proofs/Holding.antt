-- From a controller's part of a hold to what its pass has seen then, and to what it has in hand.
use Rattle.std.proofs.Common.{◌≡◌, ◌≤◌, ◌∷◌, ◌∙◌, ℕ, List, Option, Some, None, Result, Ok, Err}
use Rattle.std.proofs.Common.{sym, subst, arith}
use Rattle.std.specs.Prelude.{MatchOption, MatchResult, OnOk, OnErr, IfErr}
use Rattle.flat_model.specs.declared.journals.Item.{Item}
use Rattle.flat_model.specs.declared.journals.Item.TheVariants.{Took}
use Rattle.flat_model.specs.declared.journals.Order.{Order}
use Rattle.flat_model.specs.declared.orders.OrderRefusal.{OrderRefusal}
use Rattle.flat_model.specs.declared.refusals.NoMemory as memory
use Rattle.flat_model.specs.declared.refusals.Refused.{Refused}
use Rattle.flat_model.specs.declared.refusals.Refused.TheVariants.{Because, NoMemory}
use Rattle.flat_model.specs.Log.{party}
use Rattle.baton_gate.specs.declared.passes.Pass.{Pass}
use Rattle.baton_gate.specs.declared.gate.Gate.{Gate}
use Rattle.baton_gate.specs.Logs.{GoesOn, Ahead}
use Rattle.baton_gate.specs.Passes.{carries, seen}
use Rattle.run_order.specs.InOrder.{Task, InHand, InOrder}
use Rattle.host_state.specs.State.{StateValue, stored_of}
use Rattle.run_controls.specs.Controlling.{IsAtGate}
use Rattle.run_controls.specs.Hands.{HasOnItsWay, IsNoDoneOf, IsOnItsWay, ReplaysNone}
use Rattle.run_controls.specs.Parts.{Denies, FindsNone, FindsShort, Orders, TakesUp}
use Rattle.run_controls.proofs.Handed.{none_done, none_done_by_order, still_in_hand, taken_in_hand}

-- a controller is no hart of the state that its pass takes
pub no_hart_of : {S : Type 0} (gate : Gate S Item Task) (pass : Pass S Item Task) (hand : Option InHand) (t : Task) (who : ℕ)
    → IsAtGate gate pass hand → carries pass ≡ Some t → who ≡ pass.party → t.machine.harts ≤ who
no_hart_of gate pass hand t who at carried same = omega (arith, (at.controls t carried).no_hart, same)

-- One hold: who is the party's number as it was read, p that of the pass; others have added to what was seen until the state was taken.
module _ (t : Task) (who p : ℕ) (seen now : List Item) (old new : StateValue) (same : who ≡ p) (task : t ≡ old.task)
    (ahead : Ahead party old.past p seen) (past : now ≡ new.past) where
  -- nothing was added
  ahead_then : new.past ≡ old.past → Ahead party now p seen
  ahead_then none = subst (λ (xs : List Item). Ahead party xs p seen) (sym (past ∙ none)) ahead

  -- Orders.

  no_done_denied : (order : Order) (why : Refused OrderRefusal) → Denies order old new why → GoesOn (IsNoDoneOf p) seen now
  no_done_denied order (Because why) is = none_done p seen now (ahead_then is.0)
  no_done_denied order NoMemory is = none_done p seen now (ahead_then is)

  no_done_by : (order : Order) (r : Result (Unit {0}) (Refused OrderRefusal)) → OnOk r (Orders who order old new)
      → IfErr r (Denies order old new) → GoesOn (IsNoDoneOf p) seen now
  no_done_by order (Ok u) is denied = none_done_by_order p who order seen old.past now ahead (past ∙ is.past)
  no_done_by order (Err why) is denied = no_done_denied order why denied

  -- what is in hand stays there
  pub hand_stays : (order : Order) (r : Result (Unit {0}) (Refused OrderRefusal)) (hand : Option InHand) → ReplaysNone p
      → InOrder new.task (stored_of new) → new.task ≡ old.task → OnOk r (Orders who order old new)
      → IfErr r (Denies order old new) → HasOnItsWay t p seen hand → HasOnItsWay t p now hand
  hand_stays order r hand apart in_order kept is denied has =
      let P : Task × List Item → Type 0 = λ y. HasOnItsWay y.0 p y.1 hand in
      let to : t ≡ new.task = task ∙ sym kept in
      let goes : GoesOn (IsNoDoneOf p) seen new.past =
      subst (λ (xs : List Item). GoesOn (IsNoDoneOf p) seen xs) past (no_done_by order r is denied) in
      subst P (λ i. (sym to i, sym past i))
      (still_in_hand new.task p seen new.past hand apart in_order.legal in_order.state_log goes
      (subst (λ (x : Task). HasOnItsWay x p seen hand) to has))

  -- Completions.

  taken_hand : (hand : Option InHand) → MatchOption hand (FindsNone old new) (TakesUp who old new) → HasOnItsWay t p now hand
  taken_hand None is = tt
  taken_hand (Some c) is =
      let P : Task × (ℕ × List Item) → Type 0 = λ y. IsOnItsWay y.0 y.1.0 y.1.1 c in
      let at : now ≡ Took who c.plugin ∷ old.past = past ∙ is.past in
      subst P (λ i. (sym task i, (same i, sym at i))) (taken_in_hand old.task who old.past c is.due is.notices is.back)

  pub hand_then : (r : Result (Option InHand) memory.NoMemory)
      → MatchResult r (λ hand. MatchOption hand (FindsNone old new) (TakesUp who old new)) (λ _. FindsShort old new)
      → MatchResult r (HasOnItsWay t p now) (λ _. Unit {0})
  hand_then (Ok hand) is = taken_hand hand is
  hand_then (Err e) is = tt

  -- what is in hand as the state is taken
  pub hand_at : (hand : Option InHand) → ReplaysNone p → InOrder old.task (stored_of old) → HasOnItsWay t p seen hand
      → HasOnItsWay old.task who old.past hand
  hand_at hand apart order has =
      subst (λ (k : ℕ). HasOnItsWay old.task k old.past hand) (sym same)
      (still_in_hand old.task p seen old.past hand apart order.legal order.state_log (none_done p seen old.past ahead)
      (subst (λ (x : Task). HasOnItsWay x p seen hand) task has))

  -- and once its closer is back, or where it can't be put back
  pub hand_done : (before after : Option InHand) (r : Result (Unit {0}) memory.NoMemory) → HasOnItsWay old.task who old.past before
      → OnOk r (after ≡ None) → OnErr r (after ≡ before) → OnErr r (new.past ≡ old.past) → HasOnItsWay t p now after
  hand_done before after (Ok u) has empty kept none = subst (HasOnItsWay t p now) (sym empty) tt
  hand_done before after (Err e) has empty kept none =
      let P : (Task × ℕ) × (List Item × Option InHand) → Type 0 = λ y. HasOnItsWay y.0.0 y.0.1 y.1.0 y.1.1 in
      subst P (λ i. ((sym task i, same i), (sym (past ∙ none) i, sym kept i))) has

-- where it has something in hand
pub some_then : (P : InHand → Type 0) (told : InHand → Type 0) (hand : Option InHand) → MatchOption hand (Unit {0}) P
    → MatchOption hand ⊥ told → MatchOption hand ⊥ P
some_then P told None has there = there
some_then P told (Some c) has there = has
