-- What one event more does to a trace.
use Rattle.std.proofs.Common.{◌≡◌, ℕ, ◌<◌, ◌≤◌, ◌∙◌, List, [], ◌∷◌, ◌++◌, length}
use Rattle.std.proofs.Common.{take, filter_map, Option, Some, None, refl, ap, sym, append-nil, arith}
use Rattle.std.proofs.lemmas.List.{take_all, take-append-le}
use Rattle.std.proofs.lemmas.Grind.{common_steps}
use Rattle.std.proofs.lemmas.List.Elements.{filter_map-append}
use Rattle.flat_model.specs.declared.events.Event.{Event}
use Rattle.flat_model.specs.declared.plugins.Row.{Row}
use Rattle.watcher_api.specs.Tallies.{traced}

-- of the first n, fewer than n are all
take_below : {X : Type 0} (n : ℕ) (xs : List X) → length (take n xs) < n → length xs ≤ n
take_below {X} n xs below = grind (arith, common_steps)

take_full : {X : Type 0} (n : ℕ) (xs ys : List X) → n ≤ length (take n xs) → take n (xs ++ ys) ≡ take n xs
take_full {X} n xs ys full =
    let long : n ≤ length xs = grind (arith, common_steps) in
    take-append-le n xs ys long

take_room : {X : Type 0} (n : ℕ) (xs : List X) (x : X) → length (take n xs) < n → take n (xs ++ x ∷ []) ≡ take n xs ++ x ∷ []
take_room {X} n xs x below =
    let whole : take n xs ≡ xs = take_all n xs (take_below n xs below) in
    let short : length xs < n = grind (arith, common_steps) in
    let fits : length (xs ++ x ∷ []) ≤ n = grind (arith, common_steps) in
    take_all n (xs ++ x ∷ []) fits ∙ ap (λ ys. ys ++ x ∷ []) (sym whole)

pub traced_none : (row : Event → Option Row) → traced row [] ≡ []
unfolding traced
traced_none row = refl

pub traced_push : (row : Event → Option Row) (heard : List Event) (e : Event) (r : Row)
    → row e ≡ Some r → length (traced row heard) < 65536 → traced row (heard ++ e ∷ []) ≡ traced row heard ++ r ∷ []
unfolding traced
traced_push row heard e r is below =
    let more : filter_map row (heard ++ e ∷ []) ≡ filter_map row heard ++ r ∷ [] = rw (filter_map-append, is) refl in
    ap (λ rows. take 65536 rows) more ∙ take_room 65536 (filter_map row heard) r below

pub traced_pass : (row : Event → Option Row) (heard : List Event) (e : Event)
    → row e ≡ None → traced row (heard ++ e ∷ []) ≡ traced row heard
unfolding traced
traced_pass row heard e is =
    let same : filter_map row (heard ++ e ∷ []) ≡ filter_map row heard = rw (filter_map-append, is, append-nil) refl in
    ap (λ rows. take 65536 rows) same

pub traced_full : (row : Event → Option Row) (heard : List Event) (e : Event)
    → 65536 ≤ length (traced row heard) → traced row (heard ++ e ∷ []) ≡ traced row heard
unfolding traced
traced_full row heard e full =
    ap (λ rows. take 65536 rows) (filter_map-append row heard (e ∷ []))
    ∙ take_full 65536 (filter_map row heard) (filter_map row (e ∷ [])) full
