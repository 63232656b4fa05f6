use Rattle.std.proofs.Common.{◌<◌, ◌^◌, ◌∙◌, refl, sym, ap, subst, arith}
use Rattle.flat_model.specs.World.{HartState, IsHart}
use Rattle.host_state.specs.State.{StateValue}
use Rattle.hart_runner.specs.Stretches.{LieAt}
use Rattle.hart_runner.proofs.GoingOn.{nothing_more, block_made, lies_so, none_is}
use Rattle.hart_runner.proofs.stretching.next_block.Goals as goal

pub returns-then-is_some-clause-gone : goal.returns-then-is_some-clause-gone
returns-then-is_some-clause-gone g c =
    nothing_more c.args.state.now.task c.args.no c.args.state.now.past c.args.hart.now c.args.has_sets c.args.tape.now.pieces.items
    c.args.tape.now.pieces.items refl c.requires.going.is

pub returns-in_default-clause-gone : goal.returns-in_default-clause-gone
returns-in_default-clause-gone g c =
    nothing_more c.args.state.now.task c.args.no c.args.state.now.past c.args.hart.now c.args.has_sets c.args.tape.now.pieces.items
    c.args.tape.now.pieces.items refl c.requires.going.is

pub returns-then-block-eq0-clause-gone : goal.returns-then-block-eq0-clause-gone
returns-then-block-eq0-clause-gone g c =
    nothing_more c.args.state.now.task c.args.no c.args.state.now.past c.args.hart.now c.args.has_sets c.args.tape.now.pieces.items
    c.args.tape.now.pieces.items refl c.requires.going.is

pub returns-in_default-take-clause-gone : goal.returns-in_default-take-clause-gone
returns-in_default-take-clause-gone g c =
    nothing_more c.args.state.now.task c.args.no c.args.state.now.past c.args.hart.now c.args.has_sets c.args.tape.now.pieces.items
    c.take.new.self.pieces.items (ap (λ v. v.items) c.take.ensures.pieces) c.requires.going.is

pub returns-clause-gone : goal.returns-clause-gone
returns-clause-gone g c =
    let did = c.commit_block-n.ensures in
    let whole = subst IsHart c.hart.view_is c.hart.invariant in
    let small = subst (λ (x : HartState). x.pc < 2 ^ 64) c.hart.view_is (omega arith) in
    let runs = sym (ap (λ (x : HartState). x.ending) c.hart.view_is) ∙ none_is c.hart.inside.ending c.if-is_some.ensures in
    let lies = lies_so c.args.state.now.task c.args.no c.commit_block-n.result c.args.state.now.past c.args.hart.now
    c.commit_block-n.new.raw.events did.told did.inside (c.requires.going.leaves runs) whole.aligned small in
    block_made c.args.state.now.task c.commit_block-n.new.self.task c.args.no c.commit_block-n.result c.args.state.now.past
    c.commit_block-n.new.self.past c.args.hart.now c.commit_block-n.new.hart c.args.has_sets c.args.tape.now.pieces.items
    c.take.new.self.pieces.items c.add.new.self.pieces.items c.hart.inside.pc c.commit_block-n.new.raw
    (ap (λ (s : StateValue). s.task) did.rest) did.steps did.hart did.told
    (record {
      kept = did.kept ∙ ap (λ r. r.kept) c.in-Some-take.ensures.empty;
      aligned = c.hart.invariant.aligned;
      lies = subst (λ pc. LieAt c.args.state.now.task.machine.image pc c.commit_block-n.new.raw.events)
          (sym (ap (λ (x : HartState). x.pc) c.hart.view_is)) lies;
    })
    (ap (λ v. v.items) c.take.ensures.pieces) c.add.ensures.added c.add.ensures.same
