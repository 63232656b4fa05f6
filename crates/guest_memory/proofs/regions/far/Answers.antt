use Rattle.guest_memory.proofs.Places.{place_is}
use Rattle.guest_memory.proofs.regions.far.Goals as goal

pub returns : goal.returns
returns c = record { place = place_is c.args.access c.args.addr c.args.n c.args.regions.now c.search.result c.search.ensures.first }
