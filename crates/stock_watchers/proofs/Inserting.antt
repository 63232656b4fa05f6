-- The keys of a map after an insert.
use Rattle.std.proofs.Common.{◌≡◌, ℕ, cond, List, [], ◌∷◌, Some, None, refl, ap}
use Rattle.std.specs.BTreeMap.{insert_entry, is_at}
use Rattle.std.specs.BTreeSet.{insert_key}
use Rattle.std.specs.List.Sorted.{IsStrictlySortedBy}
use Rattle.std.specs.Map.{keys_of, lookup}
use Rattle.std.specs.Ordering.{nat_cmp, is_eq, match_ordering}
use Rattle.std.specs.declared.cmp.Ordering.{Ordering}
use Rattle.std.specs.declared.cmp.Ordering.TheVariants.{Less, Equal, Greater}
use Rattle.std.proofs.lemmas.Cmp.{nat_cmp_total}
use Rattle.std.proofs.lemmas.Map.{lookup-none}
use Rattle.std.proofs.lemmas.Map.Entries.{none_below_head}
use Rattle.std.proofs.lemmas.Map.Keys.{sorted_tail}

-- a new key goes to its place
pub keys-insert_entry : {X : Type 0} (k : ℕ) (v : X) (es : List (ℕ × X))
    → keys_of (insert_entry nat_cmp es k v) ≡ insert_key nat_cmp (keys_of es) k
keys-insert_entry k v [] = refl
keys-insert_entry {X} k v (e ∷ es) = by (nat_cmp k e.0) (keys-insert_entry k v es)
  where
    by : (order : Ordering) → keys_of (insert_entry nat_cmp es k v) ≡ insert_key nat_cmp (keys_of es) k
        → keys_of (match_ordering order ((k, v) ∷ e ∷ es) ((e.0, v) ∷ es) (e ∷ insert_entry nat_cmp es k v))
        ≡ match_ordering order (k ∷ e.0 ∷ keys_of es) (e.0 ∷ keys_of es) (e.0 ∷ insert_key nat_cmp (keys_of es) k)
    by Less rest = refl
    by Equal rest = refl
    by Greater rest = ap (λ ks. e.0 ∷ ks) rest

-- a key that is there stays where it is
pub insert_present : {X : Type 0} (k : ℕ) (v : X) (es : List (ℕ × X)) → IsStrictlySortedBy nat_cmp (keys_of es)
    → lookup (is_at (nat_cmp k)) es ≡ Some v → insert_key nat_cmp (keys_of es) k ≡ keys_of es
insert_present k v [] sorted found = cc
insert_present {X} k v (e ∷ es) sorted found =
    by (nat_cmp k e.0) refl found (insert_present k v es (sorted_tail nat_cmp e.0 (keys_of es) sorted))
  where
    by : (order : Ordering) → nat_cmp k e.0 ≡ order
        → cond (is_eq order) (Some e.1) (lookup (is_at (nat_cmp k)) es) ≡ Some v
        → (lookup (is_at (nat_cmp k)) es ≡ Some v → insert_key nat_cmp (keys_of es) k ≡ keys_of es)
        → match_ordering order (k ∷ e.0 ∷ keys_of es) (e.0 ∷ keys_of es) (e.0 ∷ insert_key nat_cmp (keys_of es) k)
        ≡ e.0 ∷ keys_of es
    by Less is here rest =
        let none : lookup (is_at (nat_cmp k)) (e ∷ es) ≡ None =
        lookup-none (is_at (nat_cmp k)) (e ∷ es) (none_below_head nat_cmp_total k e es sorted is) in
        cc
    by Equal is here rest = refl
    by Greater is here rest = ap (λ ks. e.0 ∷ ks) (rest here)
