-- The events with a key, and the keys that occur.
use Rattle.std.proofs.Common.{◌≡◌, ℕ, ◌+◌, ◌<◌, ◌∙◌, List, [], ◌∷◌, ◌++◌}
use Rattle.std.proofs.Common.{length, take, get_or, filter_map, Option, Some, None, refl, ap, append-nil}
use Rattle.std.proofs.lemmas.List.Elements.{filter_map-append}
use Rattle.std.proofs.lemmas.List.Sums.{fold-append}
use Rattle.std.proofs.lemmas.List.{take_more}
use Rattle.std.specs.BTreeSet.{insert_key}
use Rattle.std.specs.Ordering.{nat_cmp}
use Rattle.watcher_api.specs.Tallies.{ascending}

module _ {X : Type 0} (key : X → Option ℕ) where
  -- one more key goes to its place
  pub ascending_push : (xs : List X) (x : X) (k : ℕ) → key x ≡ Some k
      → ascending (filter_map key (xs ++ x ∷ [])) ≡ insert_key nat_cmp (ascending (filter_map key xs)) k
  unfolding ascending
  ascending_push xs x k is = rw (filter_map-append, is, fold-append) refl

  -- and what has none changes nothing
  pub ascending_pass : (xs : List X) (x : X) → key x ≡ None
      → ascending (filter_map key (xs ++ x ∷ [])) ≡ ascending (filter_map key xs)
  ascending_pass xs x is = rw (filter_map-append, is, append-nil) refl

  -- the same at a loop's step
  pub ascending_more : (xs : List X) (i : ℕ) (d : X) (k : ℕ) → i < length xs → key (get_or xs i d) ≡ Some k
      → ascending (filter_map key (take (i + 1) xs)) ≡ insert_key nat_cmp (ascending (filter_map key (take i xs))) k
  ascending_more xs i d k within is = ap (λ ys. ascending (filter_map key ys)) (take_more xs i d within)
      ∙ ascending_push (take i xs) (get_or xs i d) k is

  pub ascending_same : (xs : List X) (i : ℕ) (d : X) → i < length xs → key (get_or xs i d) ≡ None
      → ascending (filter_map key (take (i + 1) xs)) ≡ ascending (filter_map key (take i xs))
  ascending_same xs i d within is = ap (λ ys. ascending (filter_map key ys)) (take_more xs i d within)
      ∙ ascending_pass (take i xs) (get_or xs i d) is
