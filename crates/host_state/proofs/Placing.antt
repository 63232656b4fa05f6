-- Tables of which one place changes.
use Rattle.std.proofs.Common.{◌≡◌, ◌<◌, ◌∙◌, ℕ, List, [], length, sym, ap}
use Rattle.std.specs.Prelude.{Vec, slice_set, slice_index_or}
use Rattle.std.specs.Global.{Global}
use Rattle.std.specs.Vec.{with_item}
use Rattle.std.proofs.lemmas.List.{map-set, get_or-map}
use Rattle.run_order.specs.Laws.{with_place}
use Rattle.host_state.specs.Tables.{rows_of, row_at}

module _ {A : Type 0} (rows : List (Vec A Global)) (i j : ℕ) (x : A) (row : Vec A Global) (is : row ≡ slice_index_or rows i row)
    (below : i < length rows) where
  pub row_of : row_at (rows_of rows) i ≡ row.items
  row_of = get_or-map (λ (v : Vec A Global). v.items) rows i row [] below ∙ ap (λ (v : Vec A Global). v.items) (sym is)

  pub place_set : rows_of (slice_set rows i (with_item (slice_index_or rows i row) j x)) ≡ with_place (rows_of rows) i j x
  place_set =
      map-set (λ (v : Vec A Global). v.items) rows i (with_item (slice_index_or rows i row) j x)
      ∙ (ap (λ (v : Vec A Global). slice_set (rows_of rows) i (slice_set v.items j x)) (sym is)
      ∙ ap (λ (r : List A). slice_set (rows_of rows) i (slice_set r j x)) (sym row_of))
