use Rattle.std.proofs.Common.{◌≡◌, ap, arith}
use Rattle.std.proofs.lemmas.Grind.{common_steps}
use Rattle.flat_model.specs.declared.plugins.KindName.TheVariants.{Pages}
use Rattle.stock_watchers.proofs.RowsKept.{no_page}
use Rattle.stock_watchers.proofs.Summing.{totalled_push, totalled_pass}
use Rattle.stock_watchers.specs.Totals.{first_of, second_of}
use Rattle.watcher_api.specs.Tallies.{page_key}
use Rattle.stock_watchers.proofs.keeping.add_access.Goals as goal

pub returns-in_ok-add-in-Mem : goal.returns-in_ok-add-in-Mem
returns-in_ok-add-in-Mem c = λ heard is.
    let loads : first_of Pages c.args.e.now ≡ c.from.result = grind (arith, common_steps) in
    let stores : second_of Pages c.args.e.now ≡ c.from-in-Mem.result = grind (arith, common_steps) in
    totalled_push Pages c.args.totals.now c.add.new.totals heard c.args.e.now _ c.from.result c.from-in-Mem.result
    (ap page_key c.in-Mem.is) loads stores c.in_ok-add-in-Mem.ensures.added c.in_ok-add-in-Mem.ensures.keys is

pub returns-in_default : goal.returns-in_default
returns-in_default c = λ heard is.
    totalled_pass Pages c.args.totals.now heard c.args.e.now (no_page c.args.e.now.what c.in_default.not-Mem) is
