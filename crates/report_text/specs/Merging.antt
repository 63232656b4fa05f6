-- The rows of a subscription's boxes, one list for each hart, as one list; `docs/plug-ins.md`, "Merged rows", says it in words.
use Rattle.std.specs.Prelude.{ℕ, ◌%◌, ◌^◌, ◌==◌, List, [], map, filter, fold, sum_by}
use Rattle.std.specs.BTreeSet.{insert_key}
use Rattle.std.specs.List.{flat_map}
use Rattle.std.specs.Ordering.{nat_cmp, ordering_then}
use Rattle.std.specs.declared.cmp.Ordering.{Ordering}
use Rattle.flat_model.specs.declared.plugins.KindName.{KindName}
use Rattle.flat_model.specs.declared.plugins.KindName.TheVariants.{Counts, Hot, Mem, Exec, Classes, Pages, Own}
use Rattle.flat_model.specs.declared.plugins.Row.{Row}
use Rattle.watcher_api.specs.Tallies.{ascending}
use Rattle.report_text.specs.declared.merging.Heat.{Heat}

-- the rows of one key
abbrev pub rows_with : ℕ → List Row → List Row
rows_with key rows = filter (λ row. row.key == key) rows

-- rows of one key as one row: each field is the sum of theirs, modulo 2^64
abbrev pub summed : ℕ → List Row → Row
summed key rows = record {
  key = key;
  a = sum_by (λ row. row.a) rows % 2 ^ 64;
  b = sum_by (λ row. row.b) rows % 2 ^ 64;
  c = sum_by (λ row. row.c) rows % 2 ^ 64;
  d = sum_by (λ row. row.d) rows % 2 ^ 64;
}

-- a row for each key that occurs, ascending, each the sum of the rows of its key
unfoldable pub by_key : List Row → List Row
by_key rows = map (λ key. summed key (rows_with key rows)) (ascending (map (λ row. row.key) rows))

-- a row as it stands among hot blocks: first by its runs, then by its pc, and then by the fields that are left
abbrev pub heat_of : Row → Heat
heat_of row = record { runs = record { 0 = row.a }; pc = row.key; b = row.b; c = row.c; d = row.d }

abbrev pub row_of_heat : Heat → Row
row_of_heat heat = record { key = heat.pc; a = heat.runs.0; b = heat.b; c = heat.c; d = heat.d }

-- more runs come first, and of as many the lesser pc
abbrev pub heat_cmp : Heat → Heat → Ordering
heat_cmp x y =
    ordering_then (nat_cmp y.runs.0 x.runs.0)
    (ordering_then (nat_cmp x.pc y.pc)
    (ordering_then (nat_cmp x.b y.b) (ordering_then (nat_cmp x.c y.c) (nat_cmp x.d y.d))))

-- rows by their a, descending, and of one a by their keys, ascending
unfoldable pub hottest_first : List Row → List Row
hottest_first rows = map row_of_heat (fold (insert_key heat_cmp) [] (map heat_of rows))

-- the lists one after the other
abbrev pub joined : List (List Row) → List Row
joined tallies = flat_map (λ rows. rows) tallies

-- the rows of the harts' boxes of one kind as one list
unfoldable pub merged : KindName → List (List Row) → List Row
merged Counts tallies = by_key (joined tallies)
merged Hot tallies = hottest_first (by_key (joined tallies))
merged Mem tallies = joined tallies
merged Exec tallies = joined tallies
merged Classes tallies = by_key (joined tallies)
merged Pages tallies = by_key (joined tallies)
merged (Own number) tallies = []
