use Rattle.std.proofs.Common.{◌≡◌, [], length}
use Rattle.std.specs.Prelude.{All}
use Rattle.cache_model.proofs.studies.Caches.new.Given as goal

abbrev pub invariant-loop : goal.invariant-loop
invariant-loop l = record {
  count : length l.own.items ≡ l.counter;
  shapes : All (λ own. own.shape ≡ record { sets = l.sets; ways = l.ways; line = l.line }) l.own.items;
  fresh : All (λ own. own.touches ≡ []) l.own.items;
}
