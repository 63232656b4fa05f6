-- A closing in a party's hand: it took the closing of a plug-in that is complete, tells the closer between its holds, and is still to
-- record the Done.
use Rattle.std.specs.Prelude.{◌≡◌, ◌≢◌, ◌++◌, ℕ, true, List, [], None, Option, MatchOption}
use Rattle.std.specs.List.{cons_option}
use Rattle.flat_model.specs.declared.journals.Item.{Item}
use Rattle.flat_model.specs.declared.journals.Item.TheVariants.{Step, Ordered, GaveBack, Left, Told, Got, Took}
use Rattle.flat_model.specs.Registry.{is_complete}
use Rattle.baton_gate.specs.Logs.{GoesOn}
use Rattle.run_rules.specs.Guest.{plugins}
use Rattle.run_rules.specs.Legal.{Legal}
use Rattle.run_rules.specs.Places.{IsStateLog, replaying}
use Rattle.run_order.specs.InOrder.{Task, InHand, IsInHand, task_run}

-- by a log, the party has this closing in hand
pub record IsOnItsWay (t : Task) (party : ℕ) (seen : List Item) (c : InHand) : Type 0 where
  pub complete : is_complete (plugins (task_run t) seen) c.plugin ≡ true
  pub in_hand : IsInHand t party seen c

-- what the party has in hand is such a closing, where it has something in hand
abbrev pub HasOnItsWay : Task → ℕ → List Item → Option InHand → Type 0
HasOnItsWay t party seen hand = MatchOption hand (Unit {0}) (IsOnItsWay t party seen)

-- a closing whose closer has been told what it was to be told
abbrev pub told : InHand → InHand
told c = record { plugin = c.plugin; notices = c.notices ++ cons_option c.back []; back = None }

-- the item is no Done of the party's
abbrev pub IsNoDoneOf : ℕ → Item → Type 0
IsNoDoneOf who (Step hart) = Unit {0}
IsNoDoneOf who (Ordered origin order) = Unit {0}
IsNoDoneOf who (GaveBack hart plugin) = Unit {0}
IsNoDoneOf who (Left hart) = Unit {0}
IsNoDoneOf who (Told party plugin) = party ≢ who
IsNoDoneOf who (Got hart plugin) = Unit {0}
IsNoDoneOf who (Took party plugin) = Unit {0}

-- no replay takes closings by the party's number
abbrev pub ReplaysNone : ℕ → Type 0
ReplaysNone who = (plugin : ℕ) → who ≢ replaying plugin

-- a closing in hand stays the one that the log says while the log goes on, until the party records a Done
abbrev pub ClosingsStayInHand : Type 0
ClosingsStayInHand = (t : Task) (who : ℕ) (seen now : List Item) (c : InHand) → ReplaysNone who → Legal (task_run t) now
    → IsStateLog (task_run t) now → GoesOn (IsNoDoneOf who) seen now → IsOnItsWay t who seen c → IsOnItsWay t who now c
