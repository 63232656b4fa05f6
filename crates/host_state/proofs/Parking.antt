-- Sets that are parked one after the other.
use Rattle.std.proofs.Common.{◌≡◌, ◌<◌, ◌≤◌, ◌-◌, ◌∙◌, ℕ, List, [], ◌∷◌, ◌++◌, take, drop, length, refl, sym, ap, arith, Option, Some}
use Rattle.std.specs.Prelude.{Vec, All, slice_set}
use Rattle.std.specs.Global.{Global}
use Rattle.std.proofs.Math.Seq.{take-append_seam}
use Rattle.std.proofs.lemmas.List.{nil_from_length, length-set, length-map}
use Rattle.std.proofs.lemmas.List.Elements.{All-get_or, All-set, All-head, All-rest, All-same, All-weaker}
use Rattle.watcher_api.specs.Attachment.{Attachment}
use Rattle.run_order.specs.Laws.{with_place, park_all}
use Rattle.host_state.specs.Tables.{rows_of, row_at, AreWide}

pub first_of : {A : Type 0} (P : A → Type 0) (xs : List A) (x : A) (rest : List A) → xs ≡ x ∷ rest → All P xs → P x
first_of P xs x rest is all = All-head P x rest (All-same P (x ∷ rest) xs (sym is) all)

-- sets that have their rows
abbrev pub HasRow : ℕ → Attachment → Type 0
HasRow rows a = (1 ≤ a.plugin) × (a.plugin ≤ rows)

pub rows_next : (old new : ℕ) (a : Attachment) (sets rest : List Attachment) → sets ≡ a ∷ rest → old ≡ new → All (HasRow old) sets
    → All (HasRow new) rest
rows_next old new a sets rest is long all =
    All-weaker (HasRow old) (HasRow new) (λ s has. (has.0, omega (arith, has.1, long))) rest (All-rest (HasRow old) a rest sets is all)

-- a table that has a place in each row
module _ {A : Type 0} (place : ℕ) (rows : List (Vec A Global)) (wide : AreWide place (rows_of rows)) (i : ℕ) (below : i < length rows) where
  within : i < length (rows_of rows)
  within = omega (arith, below, length-map rows (λ (row : Vec A Global). row.items))

  pub wide_at : (k : ℕ) → k ≡ place → k < length (row_at (rows_of rows) i)
  wide_at k is = omega (arith, is, All-get_or (λ (row : List A). place < length row) (rows_of rows) i [] within wide)

  pub wide_next : (new : List (Vec A Global)) (j : ℕ) (x : A) → rows_of new ≡ with_place (rows_of rows) i j x → AreWide place (rows_of new)
  wide_next new j x is =
      All-same (λ (row : List A). place < length row) (rows_of new) (with_place (rows_of rows) i j x) is
      (All-set (λ (row : List A). place < length row) (rows_of rows) i (slice_set (row_at (rows_of rows) i) j x)
      (omega (arith, length-set (row_at (rows_of rows) i) j x, wide_at place refl)) wide)

-- one set more is parked
pub parks_next : (h i j : ℕ) (a : Attachment) (sets rest : List Attachment) (rows new all : List (List (Option Attachment)))
    → sets ≡ a ∷ rest → new ≡ with_place rows i j (Some a) → i ≡ a.plugin - 1 → j ≡ h
    → park_all h sets rows ≡ all → park_all h rest new ≡ all
parks_next h i j a sets rest rows new all is put row place last =
    ap (park_all h rest)
    (put ∙ ap (λ (k : ℕ). with_place rows k j (Some a)) row ∙ ap (λ (k : ℕ). with_place rows (a.plugin - 1) k (Some a)) place)
    ∙ sym (ap (λ (ss : List Attachment). park_all h ss rows) is) ∙ last

-- and then none is left
pub parks_last : (h n : ℕ) (sets : List Attachment) (rows all : List (List (Option Attachment))) → n ≡ length sets → n ≡ 0
    → park_all h sets rows ≡ all → rows ≡ all
parks_last h n sets rows all long none last =
    ap (λ (ss : List Attachment). park_all h ss rows) (sym (nil_from_length sets (sym long ∙ none))) ∙ last

-- a slice of a whole vector is written
pub whole : {A : Type 0} (n : ℕ) (new old : List A) → length new ≡ length old → n ≡ length old → take n (new ++ drop (length new) old) ≡ new
whole n new old long is =
    let at : n ≡ length new = omega arith in
    ap (λ (k : ℕ). take k (new ++ drop (length new) old)) at ∙ take-append_seam new (drop (length new) old)
