use Rattle.std.proofs.Common.{length, ap, arith}
use Rattle.instr_lists.specs.Lists.{Listed}
use Rattle.instr_lists.proofs.blocks.BlockList.word.Goals as goal

pub returns-clause-small : goal.returns-clause-small
returns-clause-small c =
    let block = c.args.self.now.block in
    let in' = c.requires.inside in
    let long = ap (λ (v : Listed). length v.block.sites) c.self.view_is in
    let base = ap (λ (v : Listed). v.block.pc) c.self.view_is in
    omega (arith, in'.within, in'.place, long, base, c.self.invariant.1)
