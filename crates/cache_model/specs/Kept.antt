-- What a cache keeps: of the lines of each set those that were touched last, the latest first.
use Rattle.std.specs.Prelude.{◌≡◌, ℕ, ◌%◌, ◌<◌, ◌==◌, List, filter, reverse, slice_get, take, Some, IsTrue}
use Rattle.std.specs.Map.{keys_of}
use Rattle.lru.specs.LruCache.{LruCache}
use Rattle.cache_model.specs.Hits.{different, is_line_size}

-- the lines of a set, by the touches so far, the latest first
abbrev pub latest_in : ℕ → ℕ → List ℕ → List ℕ
latest_in sets s past = different (filter (λ m. m % sets == s) past)

-- set s keeps the latest of its lines, as many as it has ways
pub record IsKept {V : Type 0} (sets ways : ℕ) (past : List ℕ) (s : ℕ) (kept : LruCache ℕ V) : Type 0 where
  pub lines : keys_of kept.entries ≡ take ways (latest_in sets s past)
  pub room : kept.cap ≡ ways

-- each of the sets does
pub record AreKept {V : Type 0} (ways line : ℕ) (touches : List ℕ) (sets : ℕ) (all : List (LruCache ℕ V)) : Type 0 where
  pub some_sets : 0 < sets
  pub some_ways : 0 < ways
  pub sized : IsTrue (is_line_size line)
  pub each : (s : ℕ) (kept : LruCache ℕ V) → slice_get all s ≡ Some kept → IsKept sets ways (reverse touches) s kept
