use Rattle.std.proofs.Common.{◌≡◌, ◌∷◌, []}
use Rattle.std.specs.Prelude.{map}
use Rattle.std.proofs.lemmas.Result.{IfOk-weaker}
use Rattle.stock_watchers.proofs.RowsKept.{counts_kept, classes_kept, hot_kept, pages_kept}
use Rattle.stock_watchers.specs.Numbers.{number_rows}
use Rattle.stock_watchers.specs.Totals.{total_row}
use Rattle.stock_watchers.proofs.keeping.Kept.rows.Goals as goal

pub returns-in-Counts : goal.returns-in-Counts
returns-in-Counts c =
    IfOk-weaker c.number_rows.result (λ tally. tally.items ≡ number_rows (0 ∷ 1 ∷ 2 ∷ 3 ∷ 4 ∷ 5 ∷ 6 ∷ []) c.in-Counts.numbers) _
    (λ tally made name heard keeps. counts_kept c.args.self.now tally.items name heard c.in-Counts.numbers c.in-Counts.is made keeps)
    c.number_rows.ensures

pub returns-in-Classes : goal.returns-in-Classes
returns-in-Classes c =
    IfOk-weaker c.number_rows-in-Classes.result
    (λ tally. tally.items ≡ number_rows (0 ∷ 1 ∷ 2 ∷ 3 ∷ 4 ∷ 5 ∷ 6 ∷ 7 ∷ 8 ∷ []) c.in-Classes.numbers) _
    (λ tally made name heard keeps. classes_kept c.args.self.now tally.items name heard c.in-Classes.numbers c.in-Classes.is made keeps)
    c.number_rows-in-Classes.ensures

pub returns-in-Hot : goal.returns-in-Hot
returns-in-Hot c =
    IfOk-weaker c.total_rows.result (λ tally. tally.items ≡ map total_row c.in-Hot.totals.entries) _
    (λ tally made name heard keeps.
    hot_kept c.args.self.now tally.items name heard c.in-Hot.totals c.in-Hot.is c.total_rows.ensures.ordered made keeps)
    c.total_rows.ensures.rows

pub returns-in-Pages : goal.returns-in-Pages
returns-in-Pages c =
    IfOk-weaker c.total_rows-in-Pages.result (λ tally. tally.items ≡ map total_row c.in-Pages.totals.entries) _
    (λ tally made name heard keeps.
    pages_kept c.args.self.now tally.items name heard c.in-Pages.totals c.in-Pages.is c.total_rows-in-Pages.ensures.ordered made keeps)
    c.total_rows-in-Pages.ensures.rows
