use Rattle.std.proofs.Common.{◌<◌, ◌+◌, ◌*◌, length, ap, subst, arith}
use Rattle.block_finder.specs.Block.{Stretch}
use Rattle.instr_lists.specs.Lists.{Listed}
use Rattle.instr_lists.proofs.Placing.{all_long}
use Rattle.instr_lists.proofs.Adding.{StandsAt, standing, stand_add, word_heard}
use Rattle.instr_lists.proofs.blocks.BlockList.word_slots.Goals as goal

stands : (c : goal.After-get) → StandsAt c.args.self.now (5 * c.args.k + 1) c.get.result.now
stands c =
    let in' = c.self.inside in
    let block : Stretch = record { pc = in'.pc; n = in'.n; sites = in'.sites.items } in
    let long = ap (λ (v : Listed). length v.block.sites) c.self.view_is in
    let within : 5 * c.args.k + 1 < length in'.lists.sorts =
    omega (arith, c.requires.within, long, ap length c.self.invariant.0, all_long in'.sites.items) in
    subst (λ (v : Listed). StandsAt v (5 * c.args.k + 1) c.get.result.now) c.self.view_is
    (standing block in'.lists.sets in'.lists.sorts (5 * c.args.k + 1) c.get.result.now c.self.invariant.0 within c.get.ensures.list)

pub get-requires : goal.get-requires
get-requires c =
    let in' = c.self.inside in
    let long = ap (λ (v : Listed). length v.block.sites) c.self.view_is in
    let within : 5 * c.args.k + 1 < length in'.lists.sorts =
    omega (arith, c.requires.within, long, ap length c.self.invariant.0, all_long in'.sites.items) in
    record { there = within }

pub returns-clause-heard : goal.returns-clause-heard
returns-clause-heard c = word_heard c.args.self.now c.args.k c.get.result.now c.requires.within (stands c)

pub returns-clause-add : goal.returns-clause-add
returns-clause-add c = stand_add c.args.self.now (5 * c.args.k + 1) c.get.result.now (stands c)
