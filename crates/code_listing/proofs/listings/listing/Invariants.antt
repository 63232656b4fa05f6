use Rattle.std.proofs.Common.{take}
use Rattle.code_listing.specs.Listings.{Lists}
use Rattle.code_listing.proofs.listings.listing.Given as goal

abbrev pub invariant-loop-base : goal.invariant-loop-base
invariant-loop-base l = Lists l.what l.image (take l.base-index l.base-items) l.text.items
