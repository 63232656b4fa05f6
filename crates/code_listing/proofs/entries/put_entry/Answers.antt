use Rattle.std.proofs.Common.{◌≡◌, ◌<◌, arith}
use Rattle.flat_model.specs.Blocks.{length_of}
use Rattle.code_listing.proofs.Blocks.{some_words}
use Rattle.code_listing.proofs.entries.put_entry.Goals as goal

pub returns-in_ok-put_block-in-Blocks-clause-some : goal.returns-in_ok-put_block-in-Blocks-clause-some
returns-in_ok-put_block-in-Blocks-clause-some c =
    let long : 0 < length_of c.args.image.now c.args.pc = some_words c.args.image.now c.args.pc c.args.word c.requires.aligned c.requires.present in
    omega (arith, long, c.length-n.ensures.computed, c.from.ensures)
