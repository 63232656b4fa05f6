-- What a set of subscriptions makes of a hart's events, one event after the other and at each the subscriptions by
-- their index; `docs/plug-ins.md`, "Acts", says it in words.
use Rattle.std.specs.Prelude.{ℕ, ◌+◌, ◌≡◌, if◌then◌else◌, List, [], ◌∷◌, ◌++◌, length, replicate, slice_index, slice_index_or, slice_set}
use Rattle.std.specs.Prelude.{Option, Some, None}
use Rattle.flat_model.specs.declared.events.Event.{Event}
use Rattle.flat_model.specs.declared.plugins.Act.{Act}
use Rattle.flat_model.specs.declared.plugins.Act.TheVariants.{Call, Inline, Cond}
use Rattle.flat_model.specs.declared.plugins.Ask.{Ask}
use Rattle.flat_model.specs.declared.plugins.Ask.TheVariants.{Stay, Reset, Uninstall}
use Rattle.flat_model.specs.declared.plugins.Kind.{Kind}
use Rattle.flat_model.specs.declared.plugins.Op.TheVariants as op
use Rattle.flat_model.specs.declared.plugins.SetSpec.{SetSpec}
use Rattle.flat_model.specs.declared.plugins.Sub.{Sub}
use Rattle.flat_model.specs.Columns.{opening_column, after_act, holds}
use Rattle.flat_model.specs.Kinds.{ask_at}
use Rattle.event_walk.specs.Matches.{Classes, matches}

-- what a set has made of a hart's events so far: the events that each subscription has heard, in order; the hart's column;
-- and what one of its boxes asked for first
pub record Walk : Type 0 where
  pub heard : List (List Event)
  pub column : List ℕ
  pub asked : Ask

-- a set that has just been registered
abbrev pub opening_walk : SetSpec → Walk
opening_walk spec = record { heard = replicate (length spec.subs) []; column = opening_column spec.entries; asked = Stay }

-- what the subscription with an index has heard
abbrev pub heard_by : Walk → ℕ → List Event
heard_by w i = slice_index_or w.heard i []

-- the first of two asks
abbrev pub first_ask : Ask → Ask → Ask
first_ask Stay later = later
first_ask Reset later = Reset
first_ask Uninstall later = Uninstall

-- the subscription with index i, whose box has this kind, hears an event
abbrev pub hears : Kind → ℕ → Event → Walk → Walk
hears kind i e w = record w {
  heard = slice_set w.heard i (heard_by w i ++ e ∷ []);
  asked = first_ask w.asked (ask_at kind (length (heard_by w i) + 1));
}

-- an entry after a conditional call, which may store a number there
abbrev pub then_stores : Option ℕ → ℕ → Walk → Walk
then_stores None entry w = w
then_stores (Some value) entry w = record w { column = after_act op.Store entry value w.column }

-- what the act of the subscription with index i does at an event that matches
abbrev pub acts : Act → ℕ → Event → Walk → Walk
acts (Call kind) i e w = hears kind i e w
acts (Inline op entry imm) i e w = record w { column = after_act op entry imm w.column }
acts (Cond cond entry imm then_store kind) i e w =
    if holds cond (slice_index w.column entry) imm then then_stores then_store entry (hears kind i e w) else w

abbrev pub walk_sub : Classes → Event → ℕ → Sub → Walk → Walk
walk_sub classes e i s w = if matches classes s.filter e then acts s.act i e w else w

-- one event, at the subscriptions from index i on
unfoldable pub walk_from : Classes → Event → ℕ → List Sub → Walk → Walk
walk_from classes e i [] w = w
walk_from classes e i (s ∷ subs) w = walk_from classes e (i + 1) subs (walk_sub classes e i s w)

-- events in their order
unfoldable pub walk : Classes → List Sub → List Event → Walk → Walk
walk classes subs [] w = w
walk classes subs (e ∷ es) w = walk classes subs es (walk_from classes e 0 subs w)

-- The laws of walks.

-- to walk some events and then others is to walk them all
abbrev pub WalksInARow : Type 0
WalksInARow = (classes : Classes) (subs : List Sub) (es fs : List Event) (w : Walk)
    → walk classes subs (es ++ fs) w ≡ walk classes subs fs (walk classes subs es w)

pub record KeepsSizes (old new : Walk) : Type 0 where
  pub subs : length new.heard ≡ length old.heard
  pub entries : length new.column ≡ length old.column

-- a walk keeps the numbers of subscriptions and of entries
abbrev pub KeepsItsSizes : Type 0
KeepsItsSizes = (classes : Classes) (subs : List Sub) (es : List Event) (w : Walk)
    → KeepsSizes w (walk classes subs es w)
