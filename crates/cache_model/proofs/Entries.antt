-- The lines among the entries of a set.
use Rattle.std.proofs.Common.{◌≡◌, ℕ, suc, ◌-◌, ◌==◌, ◌||◌, nat_eq, true, false, cond, if◌then◌else◌}
use Rattle.std.proofs.Common.{List, [], ◌∷◌, take, Option, Some, None, is_some, refl, sym, ap, ◌∙◌, arith}
use Rattle.std.specs.Option.{option_map_or}
use Rattle.std.specs.Map.{keys_of, lookup, lookup_entry, remove_entry}
use Rattle.std.proofs.lemmas.List.{take-map}
use Rattle.lru.specs.LruCache.{LruCache, put_entries}
use Rattle.lru.proofs.CallerLemmas.{Contains-lookup_entry}
use Rattle.cache_model.specs.Hits.{was_touched}
use Rattle.cache_model.proofs.Recency.{removed, turned, is_one}

module _ {V : Type 0} (l : ℕ) where
  -- whether a look-up finds a line is whether it is among them
  pub found : (es : List (ℕ × V)) → is_some (lookup (nat_eq l) es) ≡ was_touched (keys_of es) l
  found [] = refl
  found (e ∷ es) = rw (turned e.0 l) (elim (e.0 == l) as (λ y. is_some (cond y (Some e.1) (lookup (nat_eq l) es))
      ≡ (y || was_touched (keys_of es) l)) [ true ↦ refl | false ↦ found es ])

  keys-removed : (es : List (ℕ × V)) → keys_of (remove_entry (nat_eq l) es) ≡ removed l (keys_of es)
  keys-removed [] = refl
  keys-removed (e ∷ es) = rw (turned e.0 l) (elim (e.0 == l) as (λ y. keys_of (cond y es (e ∷ remove_entry (nat_eq l) es))
      ≡ cond y (keys_of es) (e.0 ∷ removed l (keys_of es))) [ true ↦ refl | false ↦ ap (λ ks. e.0 ∷ ks) (keys-removed es) ])

  entry_found : (es : List (ℕ × V)) → is_some (lookup_entry (nat_eq l) es) ≡ was_touched (keys_of es) l
  entry_found [] = refl
  entry_found (e ∷ es) = rw (turned e.0 l) (elim (e.0 == l) as (λ y. is_some (cond y (Some e) (lookup_entry (nat_eq l) es))
      ≡ (y || was_touched (keys_of es) l)) [ true ↦ refl | false ↦ entry_found es ])

  put_by : (es : List (ℕ × V)) (n : ℕ) (v : V) (o : Option (ℕ × V)) → lookup_entry (nat_eq l) es ≡ o
      → keys_of (option_map_or (λ e. (e.0, v) ∷ remove_entry (nat_eq l) es) o ((l, v) ∷ take n es))
      ≡ l ∷ (if was_touched (keys_of es) l then removed l (keys_of es) else take n (keys_of es))
  put_by es n v None h =
      let absent : was_touched (keys_of es) l ≡ false = sym (entry_found es) ∙ ap is_some h in
      rw absent (ap (λ ks. l ∷ ks) (sym (take-map (λ e. e.0) n es)))
  put_by es n v (Some e) h =
      let there : was_touched (keys_of es) l ≡ true = sym (entry_found es) ∙ ap is_some h in
      let is : e.0 ≡ l = is_one e.0 l (sym (turned e.0 l) ∙ (Contains-lookup_entry (nat_eq l) es e h).1) in
      rw (there, is) (ap (λ ks. l ∷ ks) (keys-removed es))

  -- what `put` leaves of the lines
  pub keys-put : (c : LruCache ℕ V) (n : ℕ) (v : V) → c.cap ≡ suc n
      → keys_of (put_entries nat_eq c l v)
      ≡ l ∷ (if was_touched (keys_of c.entries) l then removed l (keys_of c.entries) else take n (keys_of c.entries))
  keys-put c n v room =
      let less : c.cap - 1 ≡ n = omega arith in
      rw less (put_by c.entries n v (lookup_entry (nat_eq l) c.entries) refl)
