use Rattle.std.proofs.Common.{sym, ◌∙◌}
use Rattle.flat_model.specs.declared.plugins.KindName.TheVariants.{Hot, Pages}
use Rattle.stock_watchers.proofs.Summing.{totalled_none}
use Rattle.stock_watchers.proofs.Tracing.{traced_none}
use Rattle.watcher_api.specs.Tallies.{mem_row, exec_row}
use Rattle.stock_watchers.proofs.keeping.Kept.of_none.Goals as goal

pub returns-in-Hot : goal.returns-in-Hot
returns-in-Hot c = (c.in-Hot.is, totalled_none Hot c.new.result c.new.ensures.empty)

pub returns-in-Mem : goal.returns-in-Mem
returns-in-Mem c = (c.in-Mem.is, c.new-in-Mem.ensures.items ∙ sym (traced_none mem_row))

pub returns-in-Exec : goal.returns-in-Exec
returns-in-Exec c = (c.in-Exec.is, c.new-in-Exec.ensures.items ∙ sym (traced_none exec_row))

pub returns-in-Pages : goal.returns-in-Pages
returns-in-Pages c = (c.in-Pages.is, totalled_none Pages c.new-in-Pages.result c.new-in-Pages.ensures.empty)
