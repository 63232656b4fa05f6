use Rattle.std.proofs.Common.{◌^◌, arith}
use Rattle.guest_memory.proofs.Stores.{stored_there, permitted_there}
use Rattle.guest_memory.proofs.regions.store_within.Goals as goal

pub returns-clause-permitted : goal.returns-clause-permitted
returns-clause-permitted c = λ _. permitted_there c.args.regions.now c.in-Some.place c.args.addr c.size.result
    (2 ^ c.args.shift) c.requires.laid_out c.in-Some.ensures.place c.size.ensures.size

pub returns-clause-written : goal.returns-clause-written
returns-clause-written c = λ _. stored_there c.args.regions.now c.in-Some.place c.args.addr c.size.result
    (2 ^ c.args.shift) c.args.value c.index-regions-place.result c.put_in.new.region c.requires.laid_out c.in-Some.ensures.place
    c.size.ensures.size (let s = c.size.ensures.size in let t = c.size.ensures.small in omega arith) c.index-regions-place.is
    c.put_in.ensures
