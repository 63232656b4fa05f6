-- Sums by key after one event more, and the rows that they give.
use Rattle.std.proofs.Common.{◌≡◌, ◌≢◌, ℕ, ◌∙◌, ◌+◌, ◌%◌, ◌^◌, false, List, [], ◌∷◌, ◌++◌}
use Rattle.std.proofs.Common.{length, map, sum_by, Some, None, refl, ap, sym, subst, ⊎_elim, zero-add, arith, All}
use Rattle.std.specs.BTreeMap.{BTreeMap, get, keys, Updates, IsOrdered}
use Rattle.std.specs.BTreeSet.{insert_key}
use Rattle.std.specs.Map.{keys_of}
use Rattle.std.specs.Ordering.{nat_cmp, is_eq}
use Rattle.std.specs.declared.cmp.Ordering.{Ordering}
use Rattle.std.specs.declared.cmp.Ordering.TheVariants.{Less, Equal, Greater}
use Rattle.std.proofs.Math.Nat.{mod-add-mod}
use Rattle.std.proofs.lemmas.Bool.{cases_eq}
use Rattle.std.proofs.lemmas.Cmp.{nat_cmp_total}
use Rattle.std.proofs.lemmas.List.Elements.{All-head, All-tail, All-weaker}
use Rattle.std.proofs.lemmas.List.Sums.{sum_by_push, sum_by-cons}
use Rattle.std.proofs.lemmas.Map.Lookups.{exact_unsigned}
use Rattle.std.proofs.lemmas.Map.Views.{All-found}
use Rattle.flat_model.specs.declared.events.Event.{Event}
use Rattle.flat_model.specs.declared.plugins.KindName.{KindName}
use Rattle.flat_model.specs.declared.plugins.KindName.TheVariants.{Hot, Pages}
use Rattle.flat_model.specs.declared.plugins.Row.{Row}
use Rattle.stock_watchers.specs.declared.totals.Total.{Total}
use Rattle.stock_watchers.specs.Totals.{IsTotalled, first_of, second_of, total_of, more_by, total_row}
use Rattle.stock_watchers.proofs.Heard.{with_here, with_other, with_none}
use Rattle.watcher_api.proofs.Keys.{ascending_push, ascending_pass}
use Rattle.watcher_api.specs.Tallies.{tallied, ascending, key_of, row_of, with_key}

apart : (k q : ℕ) → k ≢ q → is_eq (nat_cmp k q) ≡ false
apart k q differ = by (nat_cmp k q) refl
  where
    by : (order : Ordering) → nat_cmp k q ≡ order → is_eq order ≡ false
    by Less is = refl
    by Equal is = absurd (differ (exact_unsigned k q is))
    by Greater is = refl

sum_push : (f : Event → ℕ) (events : List Event) (e : Event)
    → sum_by f (events ++ e ∷ []) % 2 ^ 64 ≡ (sum_by f events % 2 ^ 64 + f e) % 2 ^ 64
sum_push f events e = ap (λ n. n % 2 ^ 64) (sum_by_push f events e) ∙ sym (mod-add-mod (sum_by f events) (2 ^ 64) (f e))

-- one event more adds what it adds
total_push : (name : KindName) (events : List Event) (e : Event)
    → total_of name (events ++ e ∷ []) ≡ Some (more_by (first_of name e) (second_of name e) (total_of name events))
total_push name [] e = simp zero-add
total_push name (x ∷ events) e =
    cc (sum_push (first_of name) (x ∷ events) e, sum_push (second_of name) (x ∷ events) e)

module _ (name : KindName) where
  pub totalled_none : (totals : BTreeMap ℕ Total) → totals.entries ≡ [] → IsTotalled name totals []
  unfolding ascending
  totalled_none totals empty = record { keys_are = ap keys_of empty; totals_are = λ key. rw empty refl }

  pub totalled_same : (old new : BTreeMap ℕ Total) (heard : List Event) → new.entries ≡ old.entries
      → IsTotalled name old heard → IsTotalled name new heard
  totalled_same old new heard same is = record {
    keys_are = ap keys_of same ∙ is.keys_are;
    totals_are = λ key. rw same (is.totals_are key);
  }

  pub totalled_pass : (totals : BTreeMap ℕ Total) (heard : List Event) (e : Event) → key_of name e ≡ None
      → IsTotalled name totals heard → IsTotalled name totals (heard ++ e ∷ [])
  totalled_pass totals heard e none is = record {
    keys_are = is.keys_are ∙ sym (ascending_pass (key_of name) heard e none);
    totals_are = λ key. is.totals_are key ∙ ap (total_of name) (sym (with_none name heard e key none));
  }

  pub totalled_push : (old new : BTreeMap ℕ Total) (heard : List Event) (e : Event) (key first second : ℕ)
      → key_of name e ≡ Some key → first_of name e ≡ first → second_of name e ≡ second
      → Updates nat_cmp old new key (Some (more_by first second (get nat_cmp old key)))
      → keys new ≡ insert_key nat_cmp (keys old) key
      → IsTotalled name old heard → IsTotalled name new (heard ++ e ∷ [])
  totalled_push old new heard e key first second has f s updates inserted is = record {
    keys_are = inserted ∙ ap (λ ks. insert_key nat_cmp ks key) is.keys_are ∙ sym (ascending_push (key_of name) heard e key has);
    totals_are = λ q. ⊎_elim
        (λ same. subst (λ k. get nat_cmp new k ≡ total_of name (with_key name k (heard ++ e ∷ []))) same here)
        (λ differ. updates.2 q (apart key q differ) ∙ is.totals_are q ∙ ap (total_of name) (sym (with_other name heard e key q has differ)))
        (cases_eq key q);
  }
    where
      here : get nat_cmp new key ≡ total_of name (with_key name key (heard ++ e ∷ []))
      here =
          updates.1
          ∙ cc (f, s, is.totals_are key, total_push name (with_key name key heard) e, ap (total_of name) (with_here name heard e key has))

-- the rows
ones : (events : List Event) → sum_by (λ e. 1) events ≡ length events
ones [] = refl
ones (e ∷ events) = omega (arith, sum_by-cons (λ (x : Event). 1) e events, ones events)

hot_row : (key : ℕ) (events : List Event) (total : Total)
    → total_of Hot events ≡ Some total → total_row (key, total) ≡ row_of Hot key events
hot_row key [] total is = cc
hot_row key (e ∷ events) total is = cc (ones (e ∷ events))

page_row : (key : ℕ) (events : List Event) (total : Total)
    → total_of Pages events ≡ Some total → total_row (key, total) ≡ row_of Pages key events
page_row key [] total is = cc
page_row key (e ∷ events) total is = cc

map_by_key : (row : ℕ → Row) (es : List (ℕ × Total)) → All (λ e. total_row e ≡ row e.0) es → map total_row es ≡ map row (keys_of es)
map_by_key row [] all = refl
map_by_key row (e ∷ es) all =
    cc (All-head (λ x. total_row x ≡ row x.0) e es all, map_by_key row es (All-tail (λ x. total_row x ≡ row x.0) e es all))

rows_tallied : (name : KindName) (totals : BTreeMap ℕ Total) (heard : List Event)
    → ((key : ℕ) (events : List Event) (total : Total)
    → total_of name events ≡ Some total → total_row (key, total) ≡ row_of name key events)
    → IsOrdered nat_cmp totals → IsTotalled name totals heard → map total_row totals.entries ≡ tallied name heard
unfolding tallied
rows_tallied name totals heard made ordered is =
    map_by_key (λ key. row_of name key (with_key name key heard)) totals.entries
    (All-weaker (λ e. get nat_cmp totals e.0 ≡ Some e.1) (λ e. total_row e ≡ row_of name e.0 (with_key name e.0 heard))
    (λ e found. made e.0 (with_key name e.0 heard) e.1 (sym (is.totals_are e.0) ∙ found))
    totals.entries (All-found nat_cmp_total totals ordered))
    ∙ ap (λ ks. map (λ key. row_of name key (with_key name key heard)) ks) is.keys_are

pub hot_tallied : (totals : BTreeMap ℕ Total) (heard : List Event)
    → IsOrdered nat_cmp totals → IsTotalled Hot totals heard → map total_row totals.entries ≡ tallied Hot heard
hot_tallied totals heard = rows_tallied Hot totals heard hot_row

pub pages_tallied : (totals : BTreeMap ℕ Total) (heard : List Event)
    → IsOrdered nat_cmp totals → IsTotalled Pages totals heard → map total_row totals.entries ≡ tallied Pages heard
pages_tallied totals heard = rows_tallied Pages totals heard page_row
