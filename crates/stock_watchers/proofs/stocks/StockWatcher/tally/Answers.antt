use Rattle.std.proofs.Common.{◌≡◌, List}
use Rattle.std.proofs.lemmas.Result.{IfOk-weaker}
use Rattle.flat_model.specs.declared.events.Event.{Event}
use Rattle.flat_model.specs.declared.plugins.KindName.{KindName}
use Rattle.stock_watchers.proofs.RowsKept.{stands_rows}
use Rattle.stock_watchers.specs.Keeping.{Keeps}
use Rattle.watcher_api.specs.Tallies.{rows_named}
use Rattle.stock_watchers.proofs.stocks.StockWatcher.tally.Goals as goal

pub returns : goal.returns
returns c = record {
  rows = IfOk-weaker c.rows.result
      (λ tally. (name : KindName) (heard : List Event) → Keeps c.args.self.now.kept name heard → tally.items ≡ rows_named name heard) _
      (λ tally made kind heard is stands.
      stands_rows c.args.self.now.kind c.args.self.now.kept c.args.self.now.left tally.items kind heard made is stands)
      c.rows.ensures;
}
