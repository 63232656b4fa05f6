-- What a journal keeps.
use Rattle.std.specs.Prelude.{◌≡◌, ℕ, ◌+◌, ◌-◌, ◌<◌, ◌^◌, ◌==◌, if◌then◌else◌, List, [], ◌∷◌}
use Rattle.std.specs.Prelude.{◌++◌, length}
use Rattle.std.specs.Prelude.{slice_get, slice_set, Option, Some, None}
use Rattle.std.specs.List.{AllByRecursion}
use Rattle.flat_model.specs.declared.journals.Entry.{Entry}
use Rattle.flat_model.specs.declared.journals.Entry.TheVariants.{Turn, Order, Back, Leave, Done}
use Rattle.flat_model.specs.Log.{log, total_steps, IsJoined}

-- the entries, and how many more there is room for
pub record JournalState : Type 0 where
  pub entries : List Entry
  pub spare : ℕ

-- the steps of a Turn fit 32 bits
abbrev pub IsSmall : Entry → Type 0
IsSmall (Turn hart n) = n < 2 ^ 32
IsSmall (Order origin order) = Unit {0}
IsSmall (Back hart plugin) = Unit {0}
IsSmall (Leave hart) = Unit {0}
IsSmall (Done party plugin) = Unit {0}

-- two entries as one, where both are Turns of one hart
abbrev pub joined : Option Entry → Entry → Option Entry
joined (Some (Turn last n)) (Turn hart more) = if last == hart then Some (Turn hart (n + more)) else None
joined _ _ = None

-- the last entry and one more as one, where both are Turns of one hart
abbrev pub joined_turn : List Entry → Entry → Option Entry
joined_turn es e = joined (slice_get es (length es - 1)) e

-- the entries with one more, which goes into the last where it can
abbrev pub replacing : List Entry → Entry → Option Entry → List Entry
replacing es e (Some turn) = slice_set es (length es - 1) turn
replacing es e None = es ++ e ∷ []

abbrev pub recorded : List Entry → Entry → List Entry
recorded es e = replacing es e (joined_turn es e)

-- the steps that an entry stands for
abbrev pub steps_in : Entry → ℕ
steps_in (Turn hart n) = n
steps_in (Order origin order) = 0
steps_in (Back hart plugin) = 0
steps_in (Leave hart) = 0
steps_in (Done party plugin) = 0

pub record IsCounted (es : List Entry) (steps : ℕ) : Type 0 where
  pub joined : IsJoined es
  pub small : AllByRecursion IsSmall es
  pub counted : steps ≡ total_steps (log es)
