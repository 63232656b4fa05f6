use Rattle.std.proofs.Common.{◌≡◌, ◌++◌, take}
use Rattle.std.specs.Prelude.{flat_map}
use Rattle.instr_lists.specs.Silence.{word_slots}
use Rattle.instr_lists.proofs.blocks.push_words.Given as goal

abbrev pub invariant-loop-site : goal.invariant-loop-site
invariant-loop-site l = l.slots.items ≡ l.fn.slots.items ++ flat_map (word_slots l.sets) (take l.site-index l.sites)
