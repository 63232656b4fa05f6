use Rattle.std.proofs.Common.{◌≡◌, ◌-◌, ◌%◌}
use Rattle.code_listing.specs.Listings.{HasLines}
use Rattle.code_listing.proofs.entries.put_from.Given as goal

abbrev pub invariant-loop-word : goal.invariant-loop-word
invariant-loop-word l = record {
  aligned : l.pc % 4 ≡ 0;
  lines : HasLines l.what l.image l.first l.pc l.initial.text.items l.text.items;
}

abbrev pub decreases-loop-word : goal.decreases-loop-word
decreases-loop-word l = 0x3fffc00000 - l.pc
