-- A map from keys to the sums of their rows.
use Rattle.std.specs.Prelude.{◌≡◌, ℕ, ◌+◌, ◌%◌, ◌^◌, List, [], ◌∷◌, map, Option, Some, None}
use Rattle.std.specs.BTreeMap.{BTreeMap, get, keys}
use Rattle.std.specs.Ordering.{nat_cmp}
use Rattle.flat_model.specs.declared.plugins.Row.{Row}
use Rattle.watcher_api.specs.Tallies.{ascending}
use Rattle.report_text.specs.Merging.{rows_with, summed}

-- the sum of the rows of a key; None where there is none
abbrev pub sum_if : ℕ → List Row → Option Row
sum_if key [] = None
sum_if key (row ∷ rows) = Some (summed key (row ∷ rows))

-- a map has the keys that occur, each with the sum of its rows
pub record IsSummed (totals : BTreeMap ℕ Row) (rows : List Row) : Type 0 where
  pub keys_are : keys totals ≡ ascending (map (λ row. row.key) rows)
  pub sums_are : (key : ℕ) → get nat_cmp totals key ≡ sum_if key (rows_with key rows)

-- a sum with a row more; where there is none, from nothing
abbrev pub plus : Option Row → Row → Row
plus None row = record {
  key = row.key;
  a = (0 + row.a) % 2 ^ 64;
  b = (0 + row.b) % 2 ^ 64;
  c = (0 + row.c) % 2 ^ 64;
  d = (0 + row.d) % 2 ^ 64;
}
plus (Some total) row = record {
  key = row.key;
  a = (total.a + row.a) % 2 ^ 64;
  b = (total.b + row.b) % 2 ^ 64;
  c = (total.c + row.c) % 2 ^ 64;
  d = (total.d + row.d) % 2 ^ 64;
}
