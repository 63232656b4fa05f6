-- Sums by key after one row more, and the rows that they give.
use Rattle.std.proofs.Common.{◌≡◌, ◌==◌, ◌≢◌, ◌<◌, false, ℕ, ◌∙◌, ◌+◌, ◌%◌, ◌^◌, cond, List, [], ◌∷◌, ◌++◌}
use Rattle.std.proofs.Common.{length, map, take, get_or, sum_by, Some, None, refl, ap, sym, subst}
use Rattle.std.proofs.Common.{⊎_elim, arith, All, eq-eqb, append-nil, append_assoc}
use Rattle.std.specs.Prelude.{filter, fold}
use Rattle.std.specs.BTreeMap.{BTreeMap, get, keys, insert_entry, Updates, IsOrdered}
use Rattle.std.specs.BTreeSet.{insert_key}
use Rattle.std.specs.Map.{keys_of}
use Rattle.std.specs.Ordering.{nat_cmp, is_eq, match_ordering}
use Rattle.std.specs.declared.cmp.Ordering.{Ordering}
use Rattle.std.specs.declared.cmp.Ordering.TheVariants.{Less, Equal, Greater}
use Rattle.std.proofs.Math.Nat.{mod-add-mod}
use Rattle.std.proofs.lemmas.Bool.{cases_eq, ne_eqb}
use Rattle.std.proofs.lemmas.Cmp.{nat_cmp_total}
use Rattle.std.proofs.lemmas.List.{map-append, take_more}
use Rattle.std.proofs.lemmas.List.Elements.{filter-append, All-head, All-tail, All-weaker}
use Rattle.std.proofs.lemmas.List.Sums.{sum_by_push, sum_by-cons, fold-append}
use Rattle.std.proofs.lemmas.Map.Lookups.{exact_unsigned}
use Rattle.std.proofs.lemmas.Map.Views.{All-found}
use Rattle.flat_model.specs.declared.plugins.Row.{Row}
use Rattle.watcher_api.specs.Tallies.{ascending}
use Rattle.report_text.specs.declared.merging.Heat.{Heat}
use Rattle.report_text.specs.Merging.{rows_with, summed, by_key, heat_of, row_of_heat, heat_cmp, joined}
use Rattle.report_text.specs.Totals.{IsSummed, sum_if, plus}

-- a new key goes to its place
pub keys-insert_entry : (k : ℕ) (v : Row) (es : List (ℕ × Row))
    → keys_of (insert_entry nat_cmp es k v) ≡ insert_key nat_cmp (keys_of es) k
keys-insert_entry k v [] = refl
keys-insert_entry k v (e ∷ es) = by (nat_cmp k e.0) (keys-insert_entry k v es)
  where
    by : (order : Ordering) → keys_of (insert_entry nat_cmp es k v) ≡ insert_key nat_cmp (keys_of es) k
        → keys_of (match_ordering order ((k, v) ∷ e ∷ es) ((e.0, v) ∷ es) (e ∷ insert_entry nat_cmp es k v))
        ≡ match_ordering order (k ∷ e.0 ∷ keys_of es) (e.0 ∷ keys_of es) (e.0 ∷ insert_key nat_cmp (keys_of es) k)
    by Less rest = refl
    by Equal rest = refl
    by Greater rest = ap (λ ks. e.0 ∷ ks) rest

-- the rows of a key

with_here : (rows : List Row) (row : Row) (key : ℕ) → row.key ≡ key → rows_with key (rows ++ row ∷ []) ≡ rows_with key rows ++ row ∷ []
with_here rows row key is =
    filter-append (λ (r : Row). r.key == key) rows (row ∷ [])
    ∙ ap (λ b. rows_with key rows ++ cond b (row ∷ []) []) (eq-eqb row.key key is)

with_other : (rows : List Row) (row : Row) (other : ℕ) → row.key ≢ other → rows_with other (rows ++ row ∷ []) ≡ rows_with other rows
with_other rows row other apart =
    filter-append (λ (r : Row). r.key == other) rows (row ∷ [])
    ∙ ap (λ b. rows_with other rows ++ cond b (row ∷ []) []) (ne_eqb row.key other apart)
    ∙ append-nil (rows_with other rows)

apart : (k q : ℕ) → k ≢ q → is_eq (nat_cmp k q) ≡ false
apart k q differ = by (nat_cmp k q) refl
  where
    by : (order : Ordering) → nat_cmp k q ≡ order → is_eq order ≡ false
    by Less is = refl
    by Equal is = absurd (differ (exact_unsigned k q is))
    by Greater is = refl

-- one row more

sum_push : (f : Row → ℕ) (rows : List Row) (row : Row)
    → sum_by f (rows ++ row ∷ []) % 2 ^ 64 ≡ (sum_by f rows % 2 ^ 64 + f row) % 2 ^ 64
sum_push f rows row = ap (λ n. n % 2 ^ 64) (sum_by_push f rows row) ∙ sym (mod-add-mod (sum_by f rows) (2 ^ 64) (f row))

sum_one : (f : Row → ℕ) (row : Row) → sum_by f (row ∷ []) ≡ 0 + f row
sum_one f row = omega (arith, sum_by-cons f row [])

sum_more : (key : ℕ) (rows : List Row) (row : Row) → row.key ≡ key → sum_if key (rows ++ row ∷ []) ≡ Some (plus (sum_if key rows) row)
sum_more key [] row is =
    cc (is, sum_one (λ (r : Row). r.a) row, sum_one (λ (r : Row). r.b) row, sum_one (λ (r : Row). r.c) row, sum_one (λ (r : Row). r.d) row)
sum_more key (x ∷ rows) row is =
    cc (
      is,
      sum_push (λ (r : Row). r.a) (x ∷ rows) row,
      sum_push (λ (r : Row). r.b) (x ∷ rows) row,
      sum_push (λ (r : Row). r.c) (x ∷ rows) row,
      sum_push (λ (r : Row). r.d) (x ∷ rows) row,
    )

pub summed_none : (totals : BTreeMap ℕ Row) → totals.entries ≡ [] → IsSummed totals []
unfolding ascending
summed_none totals empty = record { keys_are = ap keys_of empty; sums_are = λ key. rw empty refl }

keys_push : (rows : List Row) (row : Row)
    → ascending (map (λ (r : Row). r.key) (rows ++ row ∷ [])) ≡ insert_key nat_cmp (ascending (map (λ (r : Row). r.key) rows)) row.key
unfolding ascending
keys_push rows row = rw (map-append, fold-append) refl

summed_push : (old new : BTreeMap ℕ Row) (rows : List Row) (row : Row)
    → Updates nat_cmp old new row.key (Some (plus (get nat_cmp old row.key) row))
    → keys new ≡ insert_key nat_cmp (keys old) row.key
    → IsSummed old rows → IsSummed new (rows ++ row ∷ [])
summed_push old new rows row updates inserted is = record {
  keys_are = inserted ∙ ap (λ ks. insert_key nat_cmp ks row.key) is.keys_are ∙ sym (keys_push rows row);
  sums_are = λ q. ⊎_elim
      (λ same. subst (λ k. get nat_cmp new k ≡ sum_if k (rows_with k (rows ++ row ∷ []))) same here)
      (λ differ. updates.2 q (apart row.key q differ) ∙ is.sums_are q ∙ ap (sum_if q) (sym (with_other rows row q differ)))
      (cases_eq row.key q);
}
  where
    here : get nat_cmp new row.key ≡ sum_if row.key (rows_with row.key (rows ++ row ∷ []))
    here =
        updates.1
        ∙ (ap (λ o. Some (plus o row)) (is.sums_are row.key)
        ∙ (sym (sum_more row.key (rows_with row.key rows) row refl) ∙ ap (sum_if row.key) (sym (with_here rows row row.key refl))))

-- the same at a loop's step
pub summed_more : (old new : BTreeMap ℕ Row) (rows : List Row) (i : ℕ) (d : Row) → i < length rows
    → Updates nat_cmp old new (get_or rows i d).key (Some (plus (get nat_cmp old (get_or rows i d).key) (get_or rows i d)))
    → keys new ≡ insert_key nat_cmp (keys old) (get_or rows i d).key
    → IsSummed old (take i rows) → IsSummed new (take (i + 1) rows)
summed_more old new rows i d within updates inserted is =
    subst (IsSummed new) (sym (take_more rows i d within)) (summed_push old new (take i rows) (get_or rows i d) updates inserted is)

-- the rows

sum_is : (key : ℕ) (rows : List Row) (row : Row) → sum_if key rows ≡ Some row → row ≡ summed key rows
sum_is key [] row is = cc
sum_is key (x ∷ rows) row is = cc

map_by_key : (row : ℕ → Row) (es : List (ℕ × Row)) → All (λ e. e.1 ≡ row e.0) es → map (λ (e : ℕ × Row). e.1) es ≡ map row (keys_of es)
map_by_key row [] all = refl
map_by_key row (e ∷ es) all =
    cc (All-head (λ (x : ℕ × Row). x.1 ≡ row x.0) e es all, map_by_key row es (All-tail (λ (x : ℕ × Row). x.1 ≡ row x.0) e es all))

pub sums_by_key : (totals : BTreeMap ℕ Row) (rows : List Row) → IsOrdered nat_cmp totals → IsSummed totals rows
    → map (λ (e : ℕ × Row). e.1) totals.entries ≡ by_key rows
unfolding by_key
sums_by_key totals rows ordered is =
    map_by_key (λ key. summed key (rows_with key rows)) totals.entries
    (All-weaker (λ e. get nat_cmp totals e.0 ≡ Some e.1) (λ (e : ℕ × Row). e.1 ≡ summed e.0 (rows_with e.0 rows))
    (λ e found. sum_is e.0 (rows_with e.0 rows) e.1 (sym (is.sums_are e.0) ∙ found))
    totals.entries (All-found nat_cmp_total totals ordered))
    ∙ ap (λ ks. map (λ key. summed key (rows_with key rows)) ks) is.keys_are

-- hot blocks
pub heats_more : (rows : List Row) (i : ℕ) (d : Row) → i < length rows
    → fold (insert_key heat_cmp) [] (map heat_of (take (i + 1) rows))
    ≡ insert_key heat_cmp (fold (insert_key heat_cmp) [] (map heat_of (take i rows))) (heat_of (get_or rows i d))
heats_more rows i d within =
    ap (λ ys. fold (insert_key heat_cmp) [] (map heat_of ys)) (take_more rows i d within)
    ∙ (ap (λ hs. fold (insert_key heat_cmp) [] hs) (map-append heat_of (take i rows) (get_or rows i d ∷ []))
    ∙ fold-append (insert_key heat_cmp) [] (map heat_of (take i rows)) (heat_of (get_or rows i d) ∷ []))

-- the lists one after the other, at a loop's step
joined_more : (tallies : List (List Row)) (tally : List Row) → joined (tallies ++ tally ∷ []) ≡ joined tallies ++ tally
joined_more [] tally = append-nil tally
joined_more (x ∷ tallies) tally = ap (λ rows. x ++ rows) (joined_more tallies tally) ∙ sym (append_assoc x (joined tallies) tally)

pub joined_next : {X : Type 0} (rows : X → List Row) (xs : List X) (i : ℕ) (d : X) → i < length xs
    → joined (map rows (take (i + 1) xs)) ≡ joined (map rows (take i xs)) ++ rows (get_or xs i d)
joined_next {X} rows xs i d within =
    ap (λ ys. joined (map rows ys)) (take_more xs i d within)
    ∙ (ap joined (map-append rows (take i xs) (get_or xs i d ∷ []))
    ∙ joined_more (map rows (take i xs)) (rows (get_or xs i d)))

-- a hot block that was taken out
pub heat_taken : (rows : List Row) (old new : List Heat) (heat : Heat) → old ≡ heat ∷ new
    → (rows ++ row_of_heat heat ∷ []) ++ map row_of_heat new ≡ rows ++ map row_of_heat old
heat_taken rows old new heat is =
    append_assoc rows (row_of_heat heat ∷ []) (map row_of_heat new) ∙ ap (λ hs. rows ++ map row_of_heat hs) (sym is)
