use Rattle.std.proofs.Common.{◌≤◌, ◌++◌, arith, ◌∙◌, sym, ap}
use Rattle.flat_model.specs.World.{opening_bytes}
use Rattle.guest_memory.specs.declared.regions.Access.TheVariants.{Read}
use Rattle.guest_memory.proofs.Numbers.{bytes_nothing, appended_more}
use Rattle.guest_memory.proofs.Places.{not_at_first, run_held, run_part, bytes_there}
use Rattle.guest_memory.proofs.regions.append.Goals as goal

pub returns-in_default : goal.returns-in_default
returns-in_default c = absurd (let h = not_at_first Read c.args.regions.now c.loop-left.at c.loop-left.left c.loop-left-test.true
    c.in_default.ensures.place in let p = c.loop-left.invariant.permitted in cc)

pub append_run-requires-clause-inside : goal.append_run-requires-clause-inside
append_run-requires-clause-inside c = run_held Read c.args.regions.now c.in-Some.place c.loop-left.at c.run.result c.min-count.result
    c.index-regions-place.result c.in-Some.ensures.place c.index-regions-place.is c.run.ensures (omega arith)

pub loop-left-preserved : goal.loop-left-preserved
loop-left-preserved c =
    let short : c.min-count.result ≤ c.run.result = omega arith in
    let part : c.min-count.result ≤ c.loop-left.left = omega arith in
    let inside = run_held Read c.args.regions.now c.in-Some.place c.loop-left.at c.run.result c.min-count.result
    c.index-regions-place.result c.in-Some.ensures.place c.index-regions-place.is c.run.ensures short in
    let run = bytes_there Read c.args.regions.now c.in-Some.place c.loop-left.at c.min-count.result c.index-regions-place.result
    c.requires.laid_out c.in-Some.ensures.place.below c.index-regions-place.is inside in
    record {
      permitted = sym (run_part Read c.args.regions.now c.in-Some.place c.loop-left.at c.run.result c.min-count.result c.loop-left.left
          c.index-regions-place.result c.requires.laid_out c.in-Some.ensures.place c.index-regions-place.is c.run.ensures short part)
          ∙ c.loop-left.invariant.permitted;
      room = omega (arith, c.append_run.ensures.len, c.append_run.ensures.capacity);
      len = omega (arith, c.append_run.ensures.len);
      capacity = omega (arith, c.append_run.ensures.capacity);
      bytes = appended_more (opening_bytes c.args.regions.now) c.loop-left.out.items c.append_run.new.out.items c.loop-left.at
          c.min-count.result c.loop-left.left part (c.append_run.ensures.bytes ∙ ap (λ l. c.loop-left.out.items ++ l) run)
          ∙ c.loop-left.invariant.bytes;
    }

pub returns-clause-bytes : goal.returns-clause-bytes
returns-clause-bytes c = sym (bytes_nothing (opening_bytes c.args.regions.now) c.loop-left.out.items c.loop-left.at c.loop-left.left
    (let h = c.loop-left-test.false in omega arith)) ∙ c.loop-left.invariant.bytes
