-- The sets of a cache after one more touch.
use Rattle.std.proofs.Common.{◌≡◌, ℕ, zero, suc, ◌-◌, ◌%◌, ◌<◌, ◌==◌, nat_eq, true, false}
use Rattle.std.proofs.Common.{List, [], ◌∷◌, ◌++◌, length, take, reverse, slice_get, slice_set, slice_index_or}
use Rattle.std.proofs.Common.{Some, is_some, refl, sym, ap, ◌∙◌, subst, arith}
use Rattle.std.specs.Map.{keys_of, lookup}
use Rattle.std.proofs.lemmas.Bool.Decides.{nat_tests}
use Rattle.std.proofs.lemmas.List.{reverse-append}
use Rattle.lru.specs.LruCache.{LruCache, lru_cache, put_entries}
use Rattle.cache_model.specs.Hits.{looks_back}
use Rattle.cache_model.specs.Kept.{IsKept, AreKept}
use Rattle.cache_model.proofs.Recency.{is_one, kept_hits, kept_more, kept_other}
use Rattle.cache_model.proofs.Entries.{found, keys-put}

pub reverse-push : (ls : List ℕ) (l : ℕ) → reverse (ls ++ l ∷ []) ≡ l ∷ reverse ls
reverse-push ls l = reverse-append ls (l ∷ [])

get-set_here : {X : Type 0} (xs : List X) (i : ℕ) (x y : X) → slice_get (slice_set xs i x) i ≡ Some y → x ≡ y
get-set_here [] i x y h = cc
get-set_here (z ∷ xs) zero x y h = cc
get-set_here (z ∷ xs) (suc i) x y h = get-set_here xs i x y h

get-set_other : {X : Type 0} (xs : List X) (i j : ℕ) (x : X) → (i == j) ≡ false → slice_get (slice_set xs i x) j ≡ slice_get xs j
get-set_other [] i j x other = refl
get-set_other (z ∷ xs) zero zero x other = absurd (grind (arith, nat_tests))
get-set_other (z ∷ xs) zero (suc j) x other = refl
get-set_other (z ∷ xs) (suc i) zero x other = refl
get-set_other (z ∷ xs) (suc i) (suc j) x other = get-set_other xs i j x (grind (arith, nat_tests))

-- what is read at a place stands there
pub at_place : {X : Type 0} (xs : List X) (i : ℕ) (x : X) → i < length xs → x ≡ slice_index_or xs i x → slice_get xs i ≡ Some x
at_place [] i x within is = absurd (omega (arith, within))
at_place (y ∷ xs) zero x within is = ap Some (sym is)
at_place (y ∷ xs) (suc i) x within is = at_place xs i x (omega (arith, within)) is

module _ {V : Type 0} where
  put_in : (sets n : ℕ) (past : List ℕ) (l : ℕ) (v : V) (kept : LruCache ℕ V) → IsKept sets (suc n) past (l % sets) kept
      → IsKept sets (suc n) (l ∷ past) (l % sets) (lru_cache (put_entries nat_eq kept l v) kept.cap)
  put_in sets n past l v kept is = record {
    lines = keys-put l kept n v is.room ∙ kept_more sets n past l (keys_of kept.entries) is.lines;
    room = is.room;
  }

  stays : (sets ways s : ℕ) (past : List ℕ) (l : ℕ) (kept : LruCache ℕ V) → (l % sets == s) ≡ false
      → IsKept sets ways past s kept → IsKept sets ways (l ∷ past) s kept
  stays sets ways s past l kept other is = record {
    lines = is.lines ∙ ap (take ways) (sym (kept_other sets s past l other));
    room = is.room;
  }

  each_more : (sets n s : ℕ) (touches : List ℕ) (l : ℕ) (v : V) (all : List (LruCache ℕ V)) (kept after : LruCache ℕ V)
      → slice_get all (l % sets) ≡ Some kept
      → ((t : ℕ) (c : LruCache ℕ V) → slice_get all t ≡ Some c → IsKept sets (suc n) (reverse touches) t c)
      → slice_get (slice_set all (l % sets) (lru_cache (put_entries nat_eq kept l v) kept.cap)) s ≡ Some after
      → IsKept sets (suc n) (l ∷ reverse touches) s after
  each_more sets n s touches l v all kept after at each got = (elim (l % sets == s) as (λ y. (l % sets == s) ≡ y
      → IsKept sets (suc n) (l ∷ reverse touches) s after) [
        | true ↦ λ is.
            let place : l % sets ≡ s = is_one (l % sets) s is in
            let new : LruCache ℕ V = lru_cache (put_entries nat_eq kept l v) kept.cap in
            let got_here : slice_get (slice_set all (l % sets) new) (l % sets) ≡ Some after =
            subst (λ t. slice_get (slice_set all (l % sets) new) t ≡ Some after) (sym place) got in
            subst (IsKept sets (suc n) (l ∷ reverse touches) s) (get-set_here all (l % sets) new after got_here)
            (subst (λ t. IsKept sets (suc n) (l ∷ reverse touches) t new) place
            (put_in sets n (reverse touches) l v kept (each (l % sets) kept at)))
        | false ↦ λ other. stays sets (suc n) s (reverse touches) l after other
            (each s after (sym (get-set_other all (l % sets) s (lru_cache (put_entries nat_eq kept l v) kept.cap) other) ∙ got))
      ]) refl

  -- what is read at a line's place is its set
  module _ (ways line : ℕ) (touches : List ℕ) (sets l : ℕ) (all : List (LruCache ℕ V)) (kept : LruCache ℕ V)
      (within : l % sets < length all) (read : kept ≡ slice_index_or all (l % sets) kept) (are : AreKept ways line touches sets all) where
    -- it has the line where a touch of it is a hit
    pub set_hits : is_some (lookup (nat_eq l) kept.entries) ≡ looks_back sets ways (reverse touches) l
    set_hits =
        let is = are.each (l % sets) kept (at_place all (l % sets) kept within read) in
        found l kept.entries ∙ rw is.lines (kept_hits sets ways (reverse touches) l)

    more_kept : (n : ℕ) (v : V) → ways ≡ suc n
        → AreKept ways line (touches ++ l ∷ []) sets (slice_set all (l % sets) (lru_cache (put_entries nat_eq kept l v) kept.cap))
    more_kept n v count = let at = at_place all (l % sets) kept within read in record {
      some_sets = are.some_sets;
      some_ways = are.some_ways;
      sized = are.sized;
      each = λ s after got.
          let each_was = subst (λ w. (t : ℕ) (c : LruCache ℕ V) → slice_get all t ≡ Some c → IsKept sets w (reverse touches) t c) count are.each in
          rw (reverse-push touches l, count) (each_more sets n s touches l v all kept after at each_was got);
    }

    -- with it in front, all sets are kept
    pub kept_after : (v : V)
        → AreKept ways line (touches ++ l ∷ []) sets (slice_set all (l % sets) (lru_cache (put_entries nat_eq kept l v) kept.cap))
    kept_after v = more_kept (ways - 1) v (omega (arith, are.some_ways))
