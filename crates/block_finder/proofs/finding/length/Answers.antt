use Rattle.std.proofs.Common.{rules, ◌≡◌}
use Rattle.flat_model.specs.Blocks.{length_of}
use Rattle.block_finder.proofs.Computed.{length_is_computed}
use Rattle.block_finder.proofs.finding.length.Goals as goal

pub returns-clause-most : goal.returns-clause-most
returns-clause-most c =
    let all : c.next.new.self.place ≡ length_of c.args.image.now c.args.pc = search rules in
    rw all (length_is_computed c.args.image.now c.args.pc c.requires.aligned).most
