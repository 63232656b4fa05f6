use Rattle.std.proofs.Common.{◌≡◌, true, take}
use Rattle.std.specs.Prelude.{flat_map}
use Rattle.instr_lists.specs.Sorts.{site_sorts}
use Rattle.instr_lists.proofs.blocks.build.Given as goal

abbrev pub invariant-loop-site : goal.invariant-loop-site
invariant-loop-site l = record {
  lists : l.lists ≡ record { sets = l.sets; sorts = flat_map site_sorts (take l.site-index l.block.sites); grows = true };
  sites : l.sites.items ≡ take l.site-index l.block.sites;
}
