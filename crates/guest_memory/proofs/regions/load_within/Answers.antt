use Rattle.std.proofs.Common.{◌^◌}
use Rattle.guest_memory.proofs.Places.{load_found}
use Rattle.guest_memory.proofs.regions.load_within.Goals as goal

pub returns-clause-load : goal.returns-clause-load
returns-clause-load c =
    load_found c.args.regions.now c.in_ok-place.place c.args.addr c.size.result
    (2 ^ c.args.shift) c.number_in.result c.index-regions-place.result c.requires.laid_out c.in_ok-place.ensures.place
    c.size.ensures.size c.index-regions-place.is c.number_in.ensures
