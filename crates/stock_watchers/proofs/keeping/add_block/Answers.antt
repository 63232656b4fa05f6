use Rattle.std.proofs.Common.{refl, ap, sym, ◌∙◌}
use Rattle.flat_model.specs.declared.plugins.KindName.TheVariants.{Hot}
use Rattle.stock_watchers.proofs.RowsKept.{no_block}
use Rattle.stock_watchers.proofs.Summing.{totalled_push, totalled_pass}
use Rattle.watcher_api.specs.Tallies.{block_key, words}
use Rattle.stock_watchers.proofs.keeping.add_block.Goals as goal

pub returns-in_ok-add-in-Block : goal.returns-in_ok-add-in-Block
returns-in_ok-add-in-Block c = λ heard is.
    totalled_push Hot c.args.totals.now c.add.new.totals heard c.args.e.now c.in-Block.pc 1 c.from.result
    (ap block_key c.in-Block.is) refl (ap words c.in-Block.is ∙ sym c.from.ensures)
    c.in_ok-add-in-Block.ensures.added c.in_ok-add-in-Block.ensures.keys is

pub returns-in_default : goal.returns-in_default
returns-in_default c = λ heard is.
    totalled_pass Hot c.args.totals.now heard c.args.e.now (no_block c.args.e.now.what c.in_default.not-Block) is
