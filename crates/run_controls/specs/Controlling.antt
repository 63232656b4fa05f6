-- A controller between its calls, and what its calls add to the log.
use Rattle.std.specs.Prelude.{◌≡◌, ◌<◌, ◌≤◌, ℕ, Bool, true, false, List, ◌∷◌, Option, Some, None, length}
use Rattle.flat_model.specs.declared.journals.Item.{Item}
use Rattle.flat_model.specs.declared.journals.Item.TheVariants.{Ordered, Told, Took}
use Rattle.flat_model.specs.declared.journals.Order.{Order}
use Rattle.flat_model.specs.declared.journals.Origin.TheVariants.{Control}
use Rattle.flat_model.specs.declared.orders.OrderRefusal.{OrderRefusal}
use Rattle.flat_model.specs.declared.refusals.Refused.{Refused}
use Rattle.flat_model.specs.declared.refusals.Refused.TheVariants.{Because, NoMemory}
use Rattle.flat_model.specs.Log.{party}
use Rattle.flat_model.specs.Registry.{refusal}
use Rattle.baton_gate.specs.declared.passes.Pass.{Pass}
use Rattle.baton_gate.specs.declared.gate.Gate.{Gate}
use Rattle.baton_gate.specs.Logs.{Ahead}
use Rattle.baton_gate.specs.Passes.{IsPassOf, holds, seen, carries}
use Rattle.run_rules.specs.Guest.{plugins}
use Rattle.run_order.specs.InOrder.{Task, InHand, task_run}
use Rattle.kept_order.specs.Closing.{is_due}
use Rattle.run_controls.specs.Hands.{HasOnItsWay, ReplaysNone}

-- a party that is no hart, and by whose number no replay takes closings, with what it has in hand
pub record IsController (t : Task) (who : ℕ) (seen : List Item) (hand : Option InHand) : Type 0 where
  pub no_hart : t.machine.harts ≤ who
  pub no_replay : ReplaysNone who
  pub in_hand : HasOnItsWay t who seen hand

-- between its calls: a controller's pass of the gate, which doesn't hold the state
pub record IsAtGate {S : Type 0} (gate : Gate S Item Task) (pass : Pass S Item Task) (hand : Option InHand) : Type 0 where
  pub of_gate : IsPassOf gate pass
  pub free : holds pass ≡ false
  pub controls : (t : Task) → carries pass ≡ Some t → IsController t pass.party (seen pass) hand

-- Orders.

-- in one hold: others added to the log that was seen, and then the party gave an order that the registry allows there
pub record HasOrdered (t : Task) (who : ℕ) (order : Order) (seen now : List Item) : Type 0 where
  pub taken : List Item
  pub ahead : Ahead party taken who seen
  pub allowed : refusal (plugins (task_run t) taken) order ≡ None
  pub is : now ≡ Ordered (Control who) order ∷ taken

-- the party added nothing, and a refusal is that of the registry of the log that it has then seen
abbrev pub IsDenied : Task → ℕ → Order → List Item → List Item → Refused OrderRefusal → Type 0
IsDenied t who order seen now (Because why) = Ahead party now who seen × (refusal (plugins (task_run t) now) order ≡ Some why)
IsDenied t who order seen now NoMemory = Ahead party now who seen

-- Completions.

-- in one hold: others added to the log that was seen, and then the party took the closing of the least plug-in of which one was due
pub record HasTakenUp (t : Task) (who plugin : ℕ) (seen now : List Item) : Type 0 where
  pub taken : List Item
  pub ahead : Ahead party taken who seen
  pub due : is_due (task_run t) plugin taken ≡ true
  pub least : (p : ℕ) → 1 ≤ p → p < plugin → is_due (task_run t) p taken ≡ false
  pub is : now ≡ Took who plugin ∷ taken

-- in one hold: others added to the log that was seen, and then the party recorded the Done of a plug-in
pub record HasPutBack (who plugin : ℕ) (seen now : List Item) : Type 0 where
  pub taken : List Item
  pub ahead : Ahead party taken who seen
  pub is : now ≡ Told who plugin ∷ taken

-- the first, and then the second of the same plug-in
pub record HasTakenAndPutBack (t : Task) (who : ℕ) (seen now : List Item) : Type 0 where
  pub plugin : ℕ
  pub between : List Item
  pub taken_up : HasTakenUp t who plugin seen between
  pub put_back : HasPutBack who plugin between now

-- the party settled what it had in hand, or else what was due
abbrev pub HasSettledFrom : Option InHand → Task → ℕ → List Item → List Item → Type 0
HasSettledFrom None t who seen now = HasTakenAndPutBack t who seen now
HasSettledFrom (Some c) t who seen now = HasPutBack who c.plugin seen now

-- of some plug-in a closing is due
pub record SomeIsDue (t : Task) (now : List Item) : Type 0 where
  pub plugin : ℕ
  pub due : is_due (task_run t) plugin now ≡ true

-- and of none
abbrev pub NoClosingIsDue : Task → List Item → Type 0
NoClosingIsDue t now = (p : ℕ) → 1 ≤ p → p ≤ length (plugins (task_run t) now).plugins → is_due (task_run t) p now ≡ false

-- the party had nothing in hand and found nothing that was due, and it added nothing
pub record HasFoundNone (before : Option InHand) (t : Task) (who : ℕ) (seen now : List Item) : Type 0 where
  pub empty : before ≡ None
  pub ahead : Ahead party now who seen
  pub none_due : NoClosingIsDue t now

abbrev pub HasSettled : Bool → Option InHand → Task → ℕ → List Item → List Item → Type 0
HasSettled true before t who seen now = HasSettledFrom before t who seen now
HasSettled false before t who seen now = HasFoundNone before t who seen now

-- the party has taken up what was due, and added nothing else
pub record HasOnlyTakenUp (t : Task) (who plugin : ℕ) (seen now : List Item) : Type 0 where
  pub between : List Item
  pub taken_up : HasTakenUp t who plugin seen between
  pub ahead : Ahead party now who between

-- where it can't settle: it keeps what it had in hand, or has taken up what was due; and where it has nothing in hand, something is due
abbrev pub HasKept : Option InHand → Option InHand → Task → ℕ → List Item → List Item → Type 0
HasKept None None t who seen now = Ahead party now who seen × SomeIsDue t now
HasKept None (Some c) t who seen now = HasOnlyTakenUp t who c.plugin seen now
HasKept (Some b) None t who seen now = ⊥
HasKept (Some b) (Some c) t who seen now = Ahead party now who seen × (c.plugin ≡ b.plugin)

-- Part of it.

-- once something is in hand, or nothing is due
abbrev pub HasLookedFor : Option InHand → Option InHand → Task → ℕ → List Item → List Item → Type 0
HasLookedFor None None t who seen now = HasFoundNone None t who seen now
HasLookedFor None (Some c) t who seen now = HasTakenUp t who c.plugin seen now
HasLookedFor (Some b) None t who seen now = ⊥
HasLookedFor (Some b) (Some c) t who seen now = (c ≡ b) × (now ≡ seen)
