-- Tables whose places are shown as plain data.
use Rattle.std.proofs.Common.{◌≡◌, ◌∙◌, ℕ, zero, suc, List, [], ◌∷◌, Option, None, length, map, refl, sym, ap}
use Rattle.std.specs.Prelude.{Vec, slice_set, slice_index_or, option_map}
use Rattle.std.specs.Global.{Global}
use Rattle.std.proofs.lemmas.List.{map-set, length-map, set-get_or}
use Rattle.std.proofs.lemmas.Simd.{map-map}
use Rattle.run_order.specs.Laws.{with_place}
use Rattle.host_state.specs.Tables.{rows_of, row_at}

-- what stands at a place of what is shown, also past the end
pub map_at : {A B : Type 0} (f : A → B) (xs : List A) (i : ℕ) (d : A) → slice_index_or (map f xs) i (f d) ≡ f (slice_index_or xs i d)
map_at f [] i d = refl
map_at f (x ∷ xs) zero d = refl
map_at f (x ∷ xs) (suc i) d = map_at f xs i d

module _ {A B : Type 0} (f : A → B) where
  abbrev pub shown : List (Vec (Option A) Global) → List (List (Option B))
  shown rows = map (λ row. map (option_map f) row.items) rows

  abbrev shown_row : List (Option A) → List (Option B)
  shown_row row = map (option_map f) row

  pub shown_by : (rows : List (Vec (Option A) Global)) → shown rows ≡ map shown_row (rows_of rows)
  shown_by rows = sym (map-map shown_row (λ (row : Vec (Option A) Global). row.items) rows)

  pub shown_rows : (rows : List (Vec (Option A) Global)) → length (shown rows) ≡ length rows
  shown_rows rows = length-map rows (λ (row : Vec (Option A) Global). shown_row row.items)

  pub shown_row_at : (rows : List (Vec (Option A) Global)) (i : ℕ) → slice_index_or (shown rows) i [] ≡ shown_row (row_at (rows_of rows) i)
  shown_row_at rows i =
      ap (λ (cells : List (List (Option B))). slice_index_or cells i []) (shown_by rows) ∙ map_at shown_row (rows_of rows) i []

  pub shown_width : (rows : List (Vec (Option A) Global)) (i : ℕ)
      → length (slice_index_or (shown rows) i []) ≡ length (row_at (rows_of rows) i)
  shown_width rows i = ap length (shown_row_at rows i) ∙ length-map (row_at (rows_of rows) i) (option_map f)

  pub shown_at : (rows : List (Vec (Option A) Global)) (i j : ℕ)
      → slice_index_or (slice_index_or (shown rows) i []) j None ≡ option_map f (slice_index_or (row_at (rows_of rows) i) j None)
  shown_at rows i j =
      ap (λ (row : List (Option B)). slice_index_or row j None) (shown_row_at rows i)
      ∙ map_at (option_map f) (row_at (rows_of rows) i) j None

  -- where one place is changed
  pub shown_with : (rows now : List (Vec (Option A) Global)) (i j : ℕ) (x : Option A) → rows_of now ≡ with_place (rows_of rows) i j x
      → shown now ≡ with_place (shown rows) i j (option_map f x)
  shown_with rows now i j x is =
      let row = row_at (rows_of rows) i in
      shown_by now ∙ ap (map shown_row) is
      ∙ map-set shown_row (rows_of rows) i (slice_set row j x)
      ∙ ap (slice_set (map shown_row (rows_of rows)) i) (map-set (option_map f) row j x)
      ∙ ap (λ (r : List (Option B)). slice_set (map shown_row (rows_of rows)) i (slice_set r j (option_map f x)))
      (sym (shown_row_at rows i))
      ∙ ap (λ (cells : List (List (Option B))). slice_set cells i (slice_set (slice_index_or (shown rows) i []) j (option_map f x)))
      (sym (shown_by rows))

-- a table in which nothing is taken stays as it is
pub same_place : {A : Type 0} (cells : List (List (Option A))) (i j : ℕ) → slice_index_or (slice_index_or cells i []) j None ≡ None
    → with_place cells i j None ≡ cells
same_place {A = A} cells i j none =
    ap (λ (x : Option A). slice_set cells i (slice_set (slice_index_or cells i []) j x)) (sym none)
    ∙ ap (slice_set cells i) (set-get_or (slice_index_or cells i []) j None)
    ∙ set-get_or cells i []
