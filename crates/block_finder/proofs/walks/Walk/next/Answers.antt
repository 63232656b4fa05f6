use Rattle.std.proofs.Common.{◌≡◌, ◌<◌, ◌+◌, ◌*◌, None, sym, ◌∙◌, arith}
use Rattle.flat_model.specs.Image.{word_at}
use Rattle.block_finder.specs.Block.{IsSite}
use Rattle.block_finder.proofs.Walking.{none_in_reach, absent_next, ends_here, goes_on}
use Rattle.block_finder.proofs.walks.Walk.next.Goals as goal

pub returns-then-self-clause-site : goal.returns-then-self-clause-site
returns-then-self-clause-site c = none_in_reach c.args.image.now _ c.args.self.now.place c.args.self.now.end c.if-self.true

pub returns-in_default-clause-site : goal.returns-in_default-clause-site
returns-in_default-clause-site c =
    let walk = c.args.self.now in
    let within : walk.place < walk.end = omega arith in
    let absent : word_at c.args.image.now (walk.first + 4 * walk.place) ≡ None = rw (← c.from.ensures) c.in_default.ensures.site in
    absent_next c.args.image.now walk.first walk.place walk.end within absent

pub returns-then-ends_block-clause-to_come : goal.returns-then-ends_block-clause-to_come
returns-then-ends_block-clause-to_come c =
    let walk = c.args.self.now in
    let within : walk.place < walk.end = omega arith in
    let is : IsSite c.args.image.now (walk.first + 4 * walk.place) c.in-Some.site = rw (← c.from.ensures) c.in-Some.ensures.site in
    ends_here c.args.image.now walk.first walk.place walk.end c.in-Some.site within is (sym c.if-ends_block.true ∙ c.ends_block.ensures)

pub returns-else-ends_block-clause-to_come : goal.returns-else-ends_block-clause-to_come
returns-else-ends_block-clause-to_come c =
    let walk = c.args.self.now in
    let within : walk.place < walk.end = omega arith in
    let is : IsSite c.args.image.now (walk.first + 4 * walk.place) c.in-Some.site = rw (← c.from.ensures) c.in-Some.ensures.site in
    goes_on c.args.image.now walk.first walk.place walk.end c.in-Some.site within is (sym c.if-ends_block.false ∙ c.ends_block.ensures)
