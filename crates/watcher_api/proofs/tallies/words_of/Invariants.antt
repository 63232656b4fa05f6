use Rattle.std.proofs.Common.{◌≡◌, ◌%◌, ◌^◌, sum_by, take}
use Rattle.flat_model.specs.declared.plugins.KindName.TheVariants.{Hot}
use Rattle.watcher_api.specs.Tallies.{with_key, words}
use Rattle.watcher_api.proofs.tallies.words_of.Given as goal

-- the words of the blocks at the pc so far
abbrev pub invariant-loop-e : goal.invariant-loop-e
invariant-loop-e l = l.sum ≡ sum_by (λ e. words e.what) (with_key Hot l.pc (take l.e-index l.events)) % 2 ^ 64
