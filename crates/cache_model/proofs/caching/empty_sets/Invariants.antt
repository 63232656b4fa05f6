use Rattle.std.proofs.Common.{◌≡◌, [], replicate}
use Rattle.lru.specs.LruCache.{lru_cache}
use Rattle.cache_model.proofs.caching.empty_sets.Given as goal

abbrev pub invariant-loop : goal.invariant-loop
invariant-loop l = l.all.items ≡ replicate l.counter (lru_cache [] l.ways)
