-- The events with a key, and their number, after one event more.
use Rattle.std.proofs.Common.{◌≡◌, ◌≢◌, ℕ, ◌∙◌, cond, List, [], ◌∷◌, ◌++◌}
use Rattle.std.proofs.Common.{filter_map, slice_index_or, Option, Some, None, refl, ap, append-nil, eq-eqb}
use Rattle.std.proofs.lemmas.Bool.{ne_eqb}
use Rattle.std.proofs.lemmas.List.Elements.{filter-append}
use Rattle.flat_model.specs.declared.events.Event.{Event}
use Rattle.flat_model.specs.declared.plugins.KindName.{KindName}
use Rattle.flat_model.specs.declared.plugins.KindName.TheVariants.{Counts, Classes}
use Rattle.stock_watchers.specs.Numbers.{IsNumbered, number_of, number_row, number_rows}
use Rattle.watcher_api.specs.Tallies.{with_key, key_of, is_key, row_at, row_if, counted}

pub with_here : (name : KindName) (heard : List Event) (e : Event) (key : ℕ) → key_of name e ≡ Some key
    → with_key name key (heard ++ e ∷ []) ≡ with_key name key heard ++ e ∷ []
with_here name heard e key is =
    filter-append (λ x. is_key key (key_of name x)) heard (e ∷ [])
    ∙ ap (λ found. with_key name key heard ++ cond (is_key key found) (e ∷ []) []) is
    ∙ ap (λ b. with_key name key heard ++ cond b (e ∷ []) []) (eq-eqb key key refl)

pub with_other : (name : KindName) (heard : List Event) (e : Event) (key other : ℕ) → key_of name e ≡ Some key → key ≢ other
    → with_key name other (heard ++ e ∷ []) ≡ with_key name other heard
with_other name heard e key other is apart =
    filter-append (λ x. is_key other (key_of name x)) heard (e ∷ [])
    ∙ ap (λ found. with_key name other heard ++ cond (is_key other found) (e ∷ []) []) is
    ∙ ap (λ b. with_key name other heard ++ cond b (e ∷ []) []) (ne_eqb key other apart)
    ∙ append-nil (with_key name other heard)

pub with_none : (name : KindName) (heard : List Event) (e : Event) (key : ℕ) → key_of name e ≡ None
    → with_key name key (heard ++ e ∷ []) ≡ with_key name key heard
with_none name heard e key is =
    filter-append (λ x. is_key key (key_of name x)) heard (e ∷ [])
    ∙ ap (λ found. with_key name key heard ++ cond (is_key key found) (e ∷ []) []) is
    ∙ append-nil (with_key name key heard)

-- rows from numbers
row_from_count : (key : ℕ) (events : List Event) → number_row key (number_of events) ≡ row_if Counts key events
row_from_count key [] = refl
row_from_count key (e ∷ events) = refl

row_from_class : (key : ℕ) (events : List Event) → number_row key (number_of events) ≡ row_if Classes key events
row_from_class key [] = refl
row_from_class key (e ∷ events) = refl

filter_map_agree : {X Y : Type 0} (f g : X → Option Y) → ((x : X) → f x ≡ g x) → (xs : List X) → filter_map f xs ≡ filter_map g xs
filter_map_agree f g same [] = refl
filter_map_agree f g same (x ∷ xs) = cc (same x, filter_map_agree f g same xs)

pub counts_tallied : (keys : List ℕ) (numbers : List (Option ℕ)) (heard : List Event)
    → IsNumbered Counts numbers heard → number_rows keys numbers ≡ counted Counts keys heard
unfolding counted
counts_tallied keys numbers heard is =
    filter_map_agree (λ key. number_row key (slice_index_or numbers key None)) (row_at Counts heard)
    (λ key. ap (number_row key) (is key) ∙ row_from_count key (with_key Counts key heard)) keys

pub classes_tallied : (keys : List ℕ) (numbers : List (Option ℕ)) (heard : List Event)
    → IsNumbered Classes numbers heard → number_rows keys numbers ≡ counted Classes keys heard
unfolding counted
classes_tallied keys numbers heard is =
    filter_map_agree (λ key. number_row key (slice_index_or numbers key None)) (row_at Classes heard)
    (λ key. ap (number_row key) (is key) ∙ row_from_class key (with_key Classes key heard)) keys
