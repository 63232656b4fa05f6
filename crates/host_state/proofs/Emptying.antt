-- A row whose places are emptied one after the other, and what comes out of it.
use Rattle.std.proofs.Common.{◌≡◌, ◌≢◌, ◌+◌, ◌*◌, ◌<◌, ◌≤◌, ◌∷◌, [], ◌++◌, ◌∙◌, ℕ, zero, suc, List, Option, Some, None}
use Rattle.std.proofs.Common.{refl, sym, ap, subst, arith, length}
use Rattle.std.proofs.Common.{replicate, drop, append_assoc, append-nil, get_or-set_same, get_or-set_other, set-set}
use Rattle.std.specs.Prelude.{Vec, slice_set, slice_index_or, option_map, IfSome}
use Rattle.std.specs.Global.{Global}
use Rattle.std.specs.Option.{option_or, option_map_or}
use Rattle.std.specs.List.{cons_option, flat_map, filter_map, range_with_len}
use Rattle.std.proofs.Math.Seq.{set-append_seam, drop-cons}
use Rattle.std.proofs.Math.ListN.{drop_of_length-le}
use Rattle.std.proofs.lemmas.List.{length-set, length-map, length-replicate, set-get_or}
use Rattle.watcher_api.specs.Attachment.{Attachment}
use Rattle.run_order.specs.Laws.{with_place}
use Rattle.host_state.specs.Closing.{set_at, IsSmall, HasPlace}
use Rattle.host_state.specs.Rooms.{Room}
use Rattle.host_state.specs.Tables.{rows_of, row_at}

module _ {A : Type 0} where
  -- the first places are empty
  abbrev pub emptied : ℕ → List (Option A) → List (Option A)
  emptied zero row = row
  emptied (suc k) row = slice_set (emptied k row) k None

  emptied_long : (k : ℕ) (row : List (Option A)) → length (emptied k row) ≡ length row
  emptied_long zero row = refl
  emptied_long (suc k) row = length-set (emptied k row) k None ∙ emptied_long k row

  emptied_at : (k j : ℕ) (row : List (Option A)) → k ≤ j → slice_index_or (emptied k row) j None ≡ slice_index_or row j None
  emptied_at zero j row low = refl
  emptied_at (suc k) j row low =
      let apart : j ≢ k = omega (arith, low) in
      get_or-set_other (emptied k row) k j None None apart ∙ emptied_at k j row (omega (arith, low))

  abbrev nones : ℕ → List (Option A)
  nones k = replicate k None

  none_more : (k : ℕ) → nones (suc k) ≡ nones k ++ (None ∷ [])
  none_more zero = refl
  none_more (suc k) = ap (λ (xs : List (Option A)). None ∷ xs) (none_more k)

  emptied_is : (k : ℕ) (row : List (Option A)) → k ≤ length row → emptied k row ≡ replicate k None ++ drop k row
  emptied_is zero row low = refl
  emptied_is (suc k) row low =
      let nones : List (Option A) = replicate k None in
      let below : k < length row = omega (arith, low) in
      ap (λ (xs : List (Option A)). slice_set xs k None) (emptied_is k row (omega (arith, low)))
      ∙ ap (λ (xs : List (Option A)). slice_set (nones ++ xs) k None) (drop-cons row k None below)
      ∙ ap (λ (i : ℕ). slice_set (nones ++ slice_index_or row k None ∷ drop (suc k) row) i None) (sym (length-replicate k None))
      ∙ set-append_seam nones (slice_index_or row k None) (drop (suc k) row) None
      ∙ sym (append_assoc nones (None ∷ []) (drop (suc k) row))
      ∙ ap (λ (xs : List (Option A)). xs ++ drop (suc k) row) (sym (none_more k))

  pub all_empty : (n : ℕ) (row : List (Option A)) → length row ≡ n → emptied n row ≡ replicate n None
  all_empty n row long =
      emptied_is n row (omega (arith, long))
      ∙ ap (λ (xs : List (Option A)). replicate n None ++ xs) (drop_of_length-le row (omega (arith, long))) ∙ append-nil (replicate n None)

  -- a table of which one row is emptied
  module _ (rows : List (List (Option A))) (i : ℕ) (below : i < length rows) where
    row_now : (now : List (List (Option A))) (row : List (Option A)) → now ≡ slice_set rows i row → slice_index_or now i [] ≡ row
    row_now now row is = ap (λ (cells : List (List (Option A))). slice_index_or cells i []) is ∙ get_or-set_same rows i row [] below

    pub place_there : (k : ℕ) (now : List (List (Option A))) → now ≡ slice_set rows i (emptied k (row_at rows i))
        → k < length (row_at rows i) → k < length (row_at now i)
    place_there k now is low =
        omega (
          arith,
          low,
          ap (λ (row : List (Option A)). length row) (row_now now (emptied k (row_at rows i)) is),
          emptied_long k (row_at rows i),
        )

    pub stands_still : (k : ℕ) (now : List (List (Option A))) → now ≡ slice_set rows i (emptied k (row_at rows i))
        → slice_index_or (row_at now i) k None ≡ slice_index_or (row_at rows i) k None
    stands_still k now is =
        ap (λ (row : List (Option A)). slice_index_or row k None) (row_now now (emptied k (row_at rows i)) is)
        ∙ emptied_at k k (row_at rows i) (omega arith)

    pub one_more : (k : ℕ) (now new : List (List (Option A))) → now ≡ slice_set rows i (emptied k (row_at rows i))
        → new ≡ with_place now i k None → new ≡ slice_set rows i (emptied (k + 1) (row_at rows i))
    one_more k now new is with =
        let row = emptied k (row_at rows i) in
        with
        ∙ ap (λ (r : List (Option A)). slice_set now i (slice_set r k None)) (row_now now row is)
        ∙ ap (λ (cells : List (List (Option A))). slice_set cells i (slice_set row k None)) is
        ∙ set-set rows i row (slice_set row k None)
        ∙ ap (λ (n : ℕ). slice_set rows i (emptied n (row_at rows i))) {x = suc k} {y = k + 1} (omega arith)

pub rows_long : {A : Type 0} (rows : List (Vec A Global)) → length (rows_of rows) ≡ length rows
rows_long {A} rows = length-map rows (λ (row : Vec A Global). row.items)

-- before the first place
pub untouched : {A : Type 0} (rows : List (List A)) (i : ℕ) → rows ≡ slice_set rows i (row_at rows i)
untouched rows i = sym (set-get_or rows i [])

-- what goes out of a place
pub goes_out : {A : Type 0} (f : A → Attachment) (waiting rows : List (List (Option A))) (parked others : List (List (Option Attachment)))
    (i k : ℕ) → slice_index_or (row_at waiting i) k None ≡ slice_index_or (row_at rows i) k None
    → slice_index_or (row_at parked i) k None ≡ slice_index_or (row_at others i) k None
    → set_at f (row_at waiting i) (row_at parked i) k ≡ set_at f (row_at rows i) (row_at others i) k
goes_out f waiting rows parked others i k waits parks =
    ap (λ o. option_or (option_map f o) (slice_index_or (row_at parked i) k None)) waits
    ∙ ap (option_or (option_map f (slice_index_or (row_at rows i) k None))) parks

some_as : {P Q : Attachment → Type 0} (o : Option Attachment) → ((a : Attachment) → P a → Q a) → IfSome o P → IfSome o Q
some_as None more is = tt
some_as (Some a) more is = more a is

pub if_small : (harts : ℕ) (room : Room) (o was : Option Attachment) → o ≡ was → IfSome was (HasPlace harts room) → IfSome o IsSmall
if_small harts room o was same places =
    subst (λ (x : Option Attachment). IfSome x IsSmall) (sym same)
    (some_as {P = HasPlace harts room} {Q = IsSmall} was (λ a has. has.small) places)

pub if_room : (harts k : ℕ) (room : Room) (o was : Option Attachment) (boxes columns box_room column_room : ℕ) → o ≡ was
    → IfSome was (HasPlace harts room) → k < harts → boxes ≤ 2 * k → columns ≤ k → box_room ≡ room.boxes → column_room ≡ room.columns
    → IfSome o (λ a. (boxes + 2 ≤ box_room) × (columns < column_room))
if_room harts k room o was boxes columns box_room column_room same places low few_boxes few_columns fit fits =
    subst (λ (x : Option Attachment). IfSome x (λ a. (boxes + 2 ≤ box_room) × (columns < column_room))) (sym same)
    (some_as {P = HasPlace harts room} {Q = λ a. (boxes + 2 ≤ box_room) × (columns < column_room)} was
    (λ a has. (omega (arith, has.fits.boxes, few_boxes, fit, low), omega (arith, has.fits.columns, few_columns, fits, low))) places)

-- What is gathered of one number more.

flat_more : {A : Type 0} (f : ℕ → List A) (a n : ℕ) → flat_map f (range_with_len a (suc n)) ≡ flat_map f (range_with_len a n) ++ f (a + n)
flat_more f a zero = append-nil (f a) ∙ ap f {x = a} {y = a + 0} (omega arith)
flat_more f a (suc n) =
    ap (λ xs. f a ++ xs) (flat_more f (a + 1) n) ∙ sym (append_assoc (f a) (flat_map f (range_with_len (a + 1) n)) (f (a + 1 + n)))
    ∙ ap (λ (k : ℕ). (f a ++ flat_map f (range_with_len (a + 1) n)) ++ f k) {x = a + 1 + n} {y = a + suc n} (omega arith)

cons_then : {A : Type 0} (o : Option A) (xs ys : List A) → cons_option o (xs ++ ys) ≡ cons_option o xs ++ ys
cons_then None xs ys = refl
cons_then (Some x) xs ys = refl

some_more : {A : Type 0} (f : ℕ → Option A) (a n : ℕ)
    → filter_map f (range_with_len a (suc n)) ≡ filter_map f (range_with_len a n) ++ cons_option (f (a + n)) []
some_more f a zero = ap (λ o. cons_option o []) (ap f {x = a} {y = a + 0} (omega arith))
some_more f a (suc n) =
    ap (cons_option (f a)) (some_more f (a + 1) n)
    ∙ cons_then (f a) (filter_map f (range_with_len (a + 1) n)) (cons_option (f (a + 1 + n)) [])
    ∙ ap (λ (k : ℕ). cons_option (f a) (filter_map f (range_with_len (a + 1) n)) ++ cons_option (f k) []) {x = a + 1 + n} {y = a + suc n}
    (omega arith)

pub flat_next : {A B : Type 0} (g : ℕ → B → List A) (sets : ℕ → Option B) (k : ℕ) (o : Option B) (old new : List A) → o ≡ sets k
    → new ≡ old ++ option_map_or (g k) o [] → old ≡ flat_map (λ h. option_map_or (g h) (sets h) []) (range_with_len 0 k)
    → new ≡ flat_map (λ h. option_map_or (g h) (sets h) []) (range_with_len 0 (k + 1))
flat_next g sets k o old new same more is =
    let f = λ (h : ℕ). option_map_or (g h) (sets h) [] in
    more ∙ ap (λ x. old ++ option_map_or (g k) x []) same ∙ ap (λ xs. xs ++ f k) is
    ∙ ap (λ (j : ℕ). flat_map f (range_with_len 0 k) ++ f j) {x = k} {y = 0 + k} (omega arith)
    ∙ sym (flat_more f 0 k) ∙ ap (λ (n : ℕ). flat_map f (range_with_len 0 n)) {x = suc k} {y = k + 1} (omega arith)

pub some_next : {A B : Type 0} (g : ℕ → B → A) (sets : ℕ → Option B) (k : ℕ) (o : Option B) (old new : List A) → o ≡ sets k
    → new ≡ old ++ cons_option (option_map (g k) o) [] → old ≡ filter_map (λ h. option_map (g h) (sets h)) (range_with_len 0 k)
    → new ≡ filter_map (λ h. option_map (g h) (sets h)) (range_with_len 0 (k + 1))
some_next g sets k o old new same more is =
    let f = λ (h : ℕ). option_map (g h) (sets h) in
    more ∙ ap (λ x. old ++ cons_option (option_map (g k) x) []) same ∙ ap (λ xs. xs ++ cons_option (f k) []) is
    ∙ ap (λ (j : ℕ). filter_map f (range_with_len 0 k) ++ cons_option (f j) []) {x = k} {y = 0 + k} (omega arith)
    ∙ sym (some_more f 0 k) ∙ ap (λ (n : ℕ). filter_map f (range_with_len 0 n)) {x = suc k} {y = k + 1} (omega arith)
