-- Numbers in ascending order, each once, and what it says of rows by key.
use Rattle.std.proofs.Common.{◌≡◌, ℕ, ◌∙◌, ◌||◌, Bool, true, false, List, [], ◌∷◌}
use Rattle.std.proofs.Common.{get_or, map, filter_map, fold, nat_eq, refl, ap, sym, subst, Contains}
use Rattle.std.specs.BTreeSet.{insert_key}
use Rattle.std.specs.List.{list_any, AllByRecursion}
use Rattle.std.specs.List.Sorted.{IsStrictlySortedBy, IsStrictlyIncreasing}
use Rattle.std.specs.Ordering.{nat_cmp, match_ordering}
use Rattle.std.specs.declared.cmp.Ordering.{Ordering}
use Rattle.std.specs.declared.cmp.Ordering.TheVariants.{Less, Equal, Greater}
use Rattle.std.proofs.lemmas.Cmp.{nat_cmp_total, nat_eq_equiv}
use Rattle.std.proofs.lemmas.List.Elements.{recursion_from_All, All-from_recursion, All-map}
use Rattle.std.proofs.lemmas.Map.Keys.{IsStrictlyIncreasing-from_sorted}
use Rattle.std.proofs.lemmas.Map.Lookups.{exact_unsigned}
use Rattle.std.proofs.lemmas.Map.Views.{All-insert_key, Contains-from_any, list_any-from_Contains, exact_unsigned_eq}
use Rattle.flat_model.specs.declared.events.Event.{Event}
use Rattle.flat_model.specs.declared.plugins.KindName.{KindName}
use Rattle.flat_model.specs.declared.plugins.KindName.TheVariants.{Counts, Hot, Mem, Exec, Classes, Pages, Own}
use Rattle.watcher_api.specs.KeyLaws.{keys_in, KeysAscend, KeysOccur, RowsCount}
use Rattle.watcher_api.specs.Tallies.{tallied, ascending, key_of, row_of, with_key}

-- what stands above a number stands above one below it
above : (k x : ℕ) (ks : List ℕ) → nat_cmp k x ≡ Less → AllByRecursion (λ y. nat_cmp x y ≡ Less) ks
    → AllByRecursion (λ y. nat_cmp k y ≡ Less) ks
above k x [] below all = tt
above k x (y ∷ ks) below all = (nat_cmp_total.trans k x y below all.0, above k x ks below all.1)

insert_above : (k x : ℕ) (ks : List ℕ) → nat_cmp x k ≡ Less → AllByRecursion (λ y. nat_cmp x y ≡ Less) ks
    → AllByRecursion (λ y. nat_cmp x y ≡ Less) (insert_key nat_cmp ks k)
insert_above k x ks below all =
    recursion_from_All (λ y. nat_cmp x y ≡ Less) (insert_key nat_cmp ks k)
    (All-insert_key nat_cmp k (λ y. nat_cmp x y ≡ Less) ks (All-from_recursion (λ y. nat_cmp x y ≡ Less) ks all) below)

turned : (k x : ℕ) → nat_cmp k x ≡ Greater → nat_cmp x k ≡ Less
turned k x is = rw (nat_cmp_total.antisymm x k, is) refl

insert_sorted : (k : ℕ) (ks : List ℕ) → IsStrictlySortedBy nat_cmp ks → IsStrictlySortedBy nat_cmp (insert_key nat_cmp ks k)
unfolding IsStrictlySortedBy
insert_sorted k [] sorted = (tt, tt)
insert_sorted k (x ∷ xs) sorted = by (nat_cmp k x) refl (insert_sorted k xs sorted.1)
  where
    by : (order : Ordering) → nat_cmp k x ≡ order → IsStrictlySortedBy nat_cmp (insert_key nat_cmp xs k)
        → IsStrictlySortedBy nat_cmp (match_ordering order (k ∷ x ∷ xs) (x ∷ xs) (x ∷ insert_key nat_cmp xs k))
    by Less is rest = ((is, above k x xs is sorted.0), sorted)
    by Equal is rest = sorted
    by Greater is rest = (insert_above k x xs (turned k x is) sorted.0, rest)

fold_sorted : (done ks : List ℕ) → IsStrictlySortedBy nat_cmp done → IsStrictlySortedBy nat_cmp (fold (insert_key nat_cmp) done ks)
fold_sorted done [] sorted = sorted
fold_sorted done (k ∷ ks) sorted = fold_sorted (insert_key nat_cmp done k) ks (insert_sorted k done sorted)

ascending_sorted : (ks : List ℕ) → IsStrictlySortedBy nat_cmp (ascending ks)
unfolding ascending IsStrictlySortedBy
ascending_sorted ks = fold_sorted [] ks tt

-- the numbers that a list in order has
or_swap : (a b c : Bool) → (a || (b || c)) ≡ (b || (a || c))
or_swap true true c = refl
or_swap true false c = refl
or_swap false true c = refl
or_swap false false c = refl

or_twice : (a b : Bool) → (a || b) ≡ (a || (a || b))
or_twice true b = refl
or_twice false b = refl

any_insert : (q k : ℕ) (ks : List ℕ) → list_any (nat_eq q) (insert_key nat_cmp ks k) ≡ (nat_eq q k || list_any (nat_eq q) ks)
any_insert q k [] = refl
any_insert q k (x ∷ xs) = by (nat_cmp k x) refl (any_insert q k xs)
  where
    by : (order : Ordering) → nat_cmp k x ≡ order
        → list_any (nat_eq q) (insert_key nat_cmp xs k) ≡ (nat_eq q k || list_any (nat_eq q) xs)
        → list_any (nat_eq q) (match_ordering order (k ∷ x ∷ xs) (x ∷ xs) (x ∷ insert_key nat_cmp xs k))
        ≡ (nat_eq q k || (nat_eq q x || list_any (nat_eq q) xs))
    by Less is rest = refl
    by Equal is rest = rw (exact_unsigned k x is) (or_twice (nat_eq q x) (list_any (nat_eq q) xs))
    by Greater is rest = ap (λ b. nat_eq q x || b) rest ∙ or_swap (nat_eq q x) (nat_eq q k) (list_any (nat_eq q) xs)

any_fold : (q : ℕ) (done ks : List ℕ)
    → list_any (nat_eq q) (fold (insert_key nat_cmp) done ks) ≡ (list_any (nat_eq q) ks || list_any (nat_eq q) done)
any_fold q done [] = refl
any_fold q done (k ∷ ks) =
    any_fold q (insert_key nat_cmp done k) ks
    ∙ ap (λ b. list_any (nat_eq q) ks || b) (any_insert q k done)
    ∙ or_grouped (list_any (nat_eq q) ks) (nat_eq q k) (list_any (nat_eq q) done)
  where
    or_grouped : (a b c : Bool) → (a || (b || c)) ≡ ((b || a) || c)
    or_grouped true true c = refl
    or_grouped true false c = refl
    or_grouped false true c = refl
    or_grouped false false c = refl

any_ascending : (q : ℕ) (ks : List ℕ) → list_any (nat_eq q) (ascending ks) ≡ list_any (nat_eq q) ks
unfolding ascending
any_ascending q ks = any_fold q [] ks ∙ or_none (list_any (nat_eq q) ks)
  where
    or_none : (a : Bool) → (a || false) ≡ a
    or_none true = refl
    or_none false = refl

has : (xs ys : List ℕ) (q : ℕ) → list_any (nat_eq q) ys ≡ list_any (nat_eq q) xs → Contains xs q → Contains ys q
has xs ys q same c = Contains-from_any exact_unsigned_eq q ys (same ∙ list_any-from_Contains nat_eq_equiv q xs c)

-- of the rows

key_is : (name : KindName) (key : ℕ) (events : List Event) → (row_of name key events).key ≡ key
key_is Counts key events = refl
key_is Hot key events = refl
key_is Mem key events = refl
key_is Exec key events = refl
key_is Classes key events = refl
key_is Pages key events = refl
key_is (Own number) key events = refl

keys_made : (name : KindName) (heard : List Event) (keys : List ℕ)
    → keys_in (map (λ key. row_of name key (with_key name key heard)) keys) ≡ keys
keys_made name heard [] = refl
keys_made name heard (k ∷ keys) = cc (key_is name k (with_key name k heard), keys_made name heard keys)

keys_are : (name : KindName) (heard : List Event) → keys_in (tallied name heard) ≡ ascending (filter_map (key_of name) heard)
unfolding tallied
keys_are name heard = keys_made name heard (ascending (filter_map (key_of name) heard))

pub keys_ascend : KeysAscend
keys_ascend name heard =
    subst IsStrictlyIncreasing (sym (keys_are name heard))
    (IsStrictlyIncreasing-from_sorted (ascending (filter_map (key_of name) heard)) (ascending_sorted (filter_map (key_of name) heard)))

pub keys_occur : KeysOccur
keys_occur name heard q =
    let keys : List ℕ = filter_map (key_of name) heard in
    let same : list_any (nat_eq q) (keys_in (tallied name heard)) ≡ list_any (nat_eq q) keys =
    ap (λ ks. list_any (nat_eq q) ks) (keys_are name heard) ∙ any_ascending q keys in
    (has (keys_in (tallied name heard)) keys q (sym same), has keys (keys_in (tallied name heard)) q same)

pub rows_count : RowsCount
unfolding tallied
rows_count name heard =
    All-map (λ row. row ≡ row_of name row.key (with_key name row.key heard)) (λ key. row_of name key (with_key name key heard))
    (ascending (filter_map (key_of name) heard))
    (λ i d h. again (get_or (ascending (filter_map (key_of name) heard)) i d))
  where
    again : (k : ℕ)
        → row_of name k (with_key name k heard)
        ≡ row_of name (row_of name k (with_key name k heard)).key (with_key name (row_of name k (with_key name k heard)).key heard)
    again k = ap (λ j. row_of name j (with_key name j heard)) (sym (key_is name k (with_key name k heard)))
