-- Tables with a row for each plug-in and a place for each hart.
use Rattle.std.specs.Prelude.{ℕ, ◌<◌, List, [], map, length, Vec, slice_index_or, All}
use Rattle.std.specs.Global.{Global}

module _ {A : Type 0} where
  -- the rows as lists
  abbrev pub rows_of : List (Vec A Global) → List (List A)
  rows_of rows = map (λ row. row.items) rows

  abbrev pub row_at : List (List A) → ℕ → List A
  row_at rows i = slice_index_or rows i []

  -- each row has this place
  abbrev pub AreWide : ℕ → List (List A) → Type 0
  AreWide place rows = All (λ row. place < length row) rows
