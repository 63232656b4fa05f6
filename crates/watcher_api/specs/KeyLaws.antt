-- What the rows of a kind with a row for each key are: one for each key that occurs, ascending, each that of its events.
use Rattle.std.specs.Prelude.{◌≡◌, ◌↔◌, ℕ, List, map, filter_map, All, Contains}
use Rattle.std.specs.List.Sorted.{IsStrictlyIncreasing}
use Rattle.flat_model.specs.declared.events.Event.{Event}
use Rattle.flat_model.specs.declared.plugins.KindName.{KindName}
use Rattle.flat_model.specs.declared.plugins.Row.{Row}
use Rattle.watcher_api.specs.Tallies.{tallied, key_of, row_of, with_key}

-- the keys of rows
abbrev pub keys_in : List Row → List ℕ
keys_in rows = map (λ row. row.key) rows

abbrev pub KeysAscend : Type 0
KeysAscend = (name : KindName) (heard : List Event) → IsStrictlyIncreasing (keys_in (tallied name heard))

abbrev pub KeysOccur : Type 0
KeysOccur = (name : KindName) (heard : List Event) (key : ℕ)
    → Contains (keys_in (tallied name heard)) key ↔ Contains (filter_map (key_of name) heard) key

abbrev pub RowsCount : Type 0
RowsCount = (name : KindName) (heard : List Event)
    → All (λ row. row ≡ row_of name row.key (with_key name row.key heard)) (tallied name heard)
