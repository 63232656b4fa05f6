-- Two sums over the events with each key, modulo 2^64.
use Rattle.std.specs.Prelude.{◌≡◌, ℕ, ◌+◌, ◌%◌, ◌^◌, if◌then◌else◌, List, [], ◌∷◌, filter_map, sum_by, Option, Some, None}
use Rattle.std.specs.BTreeMap.{BTreeMap, get, keys}
use Rattle.std.specs.Ordering.{nat_cmp}
use Rattle.flat_model.specs.declared.events.Event.{Event}
use Rattle.flat_model.specs.declared.limits.TheConstants.{READS, WRITES}
use Rattle.flat_model.specs.declared.plugins.KindName.{KindName}
use Rattle.flat_model.specs.declared.plugins.KindName.TheVariants.{Hot, Pages}
use Rattle.flat_model.specs.declared.plugins.Row.{Row}
use Rattle.stock_watchers.specs.declared.totals.Total.{Total}
use Rattle.watcher_api.specs.Tallies.{with_key, key_of, ascending, goes, words}

-- what an event of a kind adds to the first sum and to the second: one and the block's words, or its directions
abbrev pub first_of : KindName → Event → ℕ
first_of Pages e = if goes READS e.what then 1 else 0
first_of _ e = 1

abbrev pub second_of : KindName → Event → ℕ
second_of Hot e = words e.what
second_of Pages e = if goes WRITES e.what then 1 else 0
second_of _ e = 0

-- the sums of some events; None where there is none
abbrev pub total_of : KindName → List Event → Option Total
total_of name [] = None
total_of name (e ∷ events) =
    Some (record { first = sum_by (first_of name) (e ∷ events) % 2 ^ 64; second = sum_by (second_of name) (e ∷ events) % 2 ^ 64 })

-- a map has the keys that occur, each with the sums of its events
pub record IsTotalled (name : KindName) (totals : BTreeMap ℕ Total) (heard : List Event) : Type 0 where
  pub keys_are : keys totals ≡ ascending (filter_map (key_of name) heard)
  pub totals_are : (key : ℕ) → get nat_cmp totals key ≡ total_of name (with_key name key heard)

-- a total with more added
abbrev pub more_by : ℕ → ℕ → Option Total → Total
more_by first second None = record { first = first % 2 ^ 64; second = second % 2 ^ 64 }
more_by first second (Some total) =
    record { first = (total.first + first) % 2 ^ 64; second = (total.second + second) % 2 ^ 64 }

-- the row of a key with its sums
abbrev pub total_row : ℕ × Total → Row
total_row entry = record { key = entry.0; a = entry.1.first; b = entry.1.second; c = 0; d = 0 }
