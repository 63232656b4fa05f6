-- What is kept for a kind gives the rows of the kind.
use Rattle.std.proofs.Common.{◌≡◌, ℕ, ◌∙◌, Bool, List, [], ◌∷◌, map, Option, Some, None, refl, ap, sym, subst}
use Rattle.std.specs.BTreeMap.{BTreeMap, IsOrdered}
use Rattle.std.specs.Ordering.{nat_cmp}
use Rattle.flat_model.specs.declared.events.Event.{Event}
use Rattle.flat_model.specs.declared.events.What.{What}
use Rattle.flat_model.specs.declared.events.What.TheVariants as what
use Rattle.flat_model.specs.declared.plugins.Kind.{Kind}
use Rattle.flat_model.specs.declared.plugins.KindName.{KindName}
use Rattle.flat_model.specs.declared.plugins.Row.{Row}
use Rattle.stock_watchers.specs.declared.keeping.Kept.{Kept}
use Rattle.stock_watchers.specs.declared.keeping.Kept.TheVariants.{Counts, Hot, Classes, Pages}
use Rattle.stock_watchers.specs.declared.totals.Total.{Total}
use Rattle.stock_watchers.specs.Keeping.{Keeps, StandsWith}
use Rattle.stock_watchers.specs.Numbers.{number_rows}
use Rattle.stock_watchers.specs.Totals.{total_row}
use Rattle.stock_watchers.proofs.Heard.{counts_tallied, classes_tallied}
use Rattle.stock_watchers.proofs.Summing.{hot_tallied, pages_tallied}
use Rattle.watcher_api.specs.Tallies.{rows, rows_named, block_key, page_key}

module _ (kept : Kept) (rows : List Row) (name : KindName) (heard : List Event) where
  pub counts_kept : (numbers : List (Option ℕ)) → kept ≡ Counts numbers
      → rows ≡ number_rows (0 ∷ 1 ∷ 2 ∷ 3 ∷ 4 ∷ 5 ∷ 6 ∷ []) numbers → Keeps kept name heard → rows ≡ rows_named name heard
  counts_kept numbers is made keeps =
      let those : Keeps (Counts numbers) name heard = subst (λ k. Keeps k name heard) is keeps in
      made ∙ counts_tallied (0 ∷ 1 ∷ 2 ∷ 3 ∷ 4 ∷ 5 ∷ 6 ∷ []) numbers heard those.1 ∙ ap (λ n. rows_named n heard) (sym those.0)

  pub classes_kept : (numbers : List (Option ℕ)) → kept ≡ Classes numbers
      → rows ≡ number_rows (0 ∷ 1 ∷ 2 ∷ 3 ∷ 4 ∷ 5 ∷ 6 ∷ 7 ∷ 8 ∷ []) numbers → Keeps kept name heard → rows ≡ rows_named name heard
  classes_kept numbers is made keeps =
      let those : Keeps (Classes numbers) name heard = subst (λ k. Keeps k name heard) is keeps in
      made ∙ classes_tallied (0 ∷ 1 ∷ 2 ∷ 3 ∷ 4 ∷ 5 ∷ 6 ∷ 7 ∷ 8 ∷ []) numbers heard those.1
      ∙ ap (λ n. rows_named n heard) (sym those.0)

  pub hot_kept : (totals : BTreeMap ℕ Total) → kept ≡ Hot totals → IsOrdered nat_cmp totals
      → rows ≡ map total_row totals.entries → Keeps kept name heard → rows ≡ rows_named name heard
  hot_kept totals is ordered made keeps =
      let those : Keeps (Hot totals) name heard = subst (λ k. Keeps k name heard) is keeps in
      made ∙ hot_tallied totals heard ordered those.1 ∙ ap (λ n. rows_named n heard) (sym those.0)

  pub pages_kept : (totals : BTreeMap ℕ Total) → kept ≡ Pages totals → IsOrdered nat_cmp totals
      → rows ≡ map total_row totals.entries → Keeps kept name heard → rows ≡ rows_named name heard
  pages_kept totals is ordered made keeps =
      let those : Keeps (Pages totals) name heard = subst (λ k. Keeps k name heard) is keeps in
      made ∙ pages_tallied totals heard ordered those.1 ∙ ap (λ n. rows_named n heard) (sym those.0)

-- an event of another kind has no key
pub no_block : (event : What) → ((pc n : ℕ) → event ≡ what.Block pc n → ⊥) → block_key event ≡ None
no_block (what.Block pc n) other = absurd (other pc n refl)
no_block _ other = refl

pub no_page : (event : What)
    → ((pc addr shift : ℕ) (signed : Bool) (rw read written : ℕ) → event ≡ what.Mem pc addr shift signed rw read written → ⊥)
    → page_key event ≡ None
no_page (what.Mem pc addr shift signed rw read written) other = absurd (other pc addr shift signed rw read written refl)
no_page _ other = refl

-- what stands for events tallies their rows
pub stands_rows : (held : Option Kind) (kept : Kept) (left : ℕ) (items : List Row) (kind : Kind) (heard : List Event)
    → ((name : KindName) (events : List Event) → Keeps kept name events → items ≡ rows_named name events)
    → held ≡ Some kind → StandsWith held kept left heard → items ≡ rows kind heard
unfolding rows
stands_rows held kept left items kind heard made is stands =
    let those : StandsWith (Some kind) kept left heard = subst (λ k. StandsWith k kept left heard) is stands in
    made kind.name heard those.0
