-- How many events have each of a few small keys, modulo 2^64.
use Rattle.std.specs.Prelude.{◌≡◌, ℕ, ◌+◌, ◌%◌, ◌^◌, List, [], ◌∷◌, length, slice_index_or, filter_map, Option, Some, None}
use Rattle.flat_model.specs.declared.events.Event.{Event}
use Rattle.flat_model.specs.declared.plugins.KindName.{KindName}
use Rattle.flat_model.specs.declared.plugins.Row.{Row}
use Rattle.watcher_api.specs.Tallies.{with_key}

-- how many events; None where there is none
abbrev pub number_of : List Event → Option ℕ
number_of [] = None
number_of (e ∷ events) = Some (length (e ∷ events) % 2 ^ 64)

-- the numbers of a kind are those of the events with each key
abbrev pub IsNumbered : KindName → List (Option ℕ) → List Event → Type 0
IsNumbered name numbers heard = (key : ℕ) → slice_index_or numbers key None ≡ number_of (with_key name key heard)

-- one more
abbrev pub one_more : Option ℕ → Option ℕ
one_more None = Some 1
one_more (Some n) = Some ((n + 1) % 2 ^ 64)

-- the row of a number
abbrev pub number_row : ℕ → Option ℕ → Option Row
number_row key None = None
number_row key (Some n) = Some (record { key = key; a = n; b = 0; c = 0; d = 0 })

-- the rows of the numbers of these keys
abbrev pub number_rows : List ℕ → List (Option ℕ) → List Row
number_rows keys numbers = filter_map (λ key. number_row key (slice_index_or numbers key None)) keys
