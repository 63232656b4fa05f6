-- What a box of each kind keeps of the events that it heard.
use Rattle.std.specs.Prelude.{◌≡◌, ℕ, ◌-◌, List, ◌∷◌, [], ◌++◌, length, Option, Some, None}
use Rattle.flat_model.specs.declared.events.Event.{Event}
use Rattle.flat_model.specs.declared.plugins.Kind.{Kind}
use Rattle.flat_model.specs.declared.plugins.KindName.{KindName}
use Rattle.flat_model.specs.declared.plugins.KindName.TheVariants as name
use Rattle.stock_watchers.specs.declared.keeping.Kept.{Kept}
use Rattle.stock_watchers.specs.declared.keeping.Kept.TheVariants.{Nothing, Counts, Hot, Mem, Exec, Classes, Pages}
use Rattle.stock_watchers.specs.Numbers.{IsNumbered}
use Rattle.stock_watchers.specs.Totals.{IsTotalled}
use Rattle.watcher_api.specs.Tallies.{traced, mem_row, exec_row}

-- a kind of the caller's own, of which nothing is kept
abbrev pub IsOwn : KindName → Type 0
IsOwn (name.Own number) = Unit {0}
IsOwn _ = ⊥

-- this is what a box of the kind keeps of the events: numbers and sums by key, or the first rows
abbrev pub Keeps : Kept → KindName → List Event → Type 0
Keeps Nothing kind heard = IsOwn kind
Keeps (Counts numbers) kind heard = (kind ≡ name.Counts) × IsNumbered name.Counts numbers heard
Keeps (Hot totals) kind heard = (kind ≡ name.Hot) × IsTotalled name.Hot totals heard
Keeps (Mem rows) kind heard = (kind ≡ name.Mem) × (rows.items ≡ traced mem_row heard)
Keeps (Exec rows) kind heard = (kind ≡ name.Exec) × (rows.items ≡ traced exec_row heard)
Keeps (Classes numbers) kind heard = (kind ≡ name.Classes) × IsNumbered name.Classes numbers heard
Keeps (Pages totals) kind heard = (kind ≡ name.Pages) × IsTotalled name.Pages totals heard

-- what was kept of some events is now what is kept of them and one more
pub record HasHeard (old new : Kept) (e : Event) : Type 0 where
  pub heard : (kind : KindName) (events : List Event) → Keeps old kind events → Keeps new kind (events ++ e ∷ [])

-- what was kept of some events is still what is kept of them
pub record HasMissed (old new : Kept) : Type 0 where
  pub kept : (kind : KindName) (events : List Event) → Keeps old kind events → Keeps new kind events

-- a box of a kind keeps this, and has so many calls left to the one at which it asks; 0 once that was, or where none is
abbrev pub StandsWith : Option Kind → Kept → ℕ → List Event → Type 0
StandsWith None kept left heard = ⊥
StandsWith (Some kind) kept left heard = Keeps kept kind.name heard × (left ≡ kind.quota - length heard)
