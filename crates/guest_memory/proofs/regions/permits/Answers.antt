use Rattle.std.proofs.Common.{map, arith, ◌∙◌, sym}
use Rattle.flat_model.specs.Permission.{span_of}
use Rattle.guest_memory.specs.Memory.{permission_of}
use Rattle.guest_memory.proofs.Places.{not_at_first, run_whole, run_more, some_run, inside_there, may_nothing}
use Rattle.guest_memory.proofs.regions.permits.Goals as goal

pub returns-in_default : goal.returns-in_default
returns-in_default c = sym (not_at_first c.args.access c.args.regions.now c.loop-left.at c.loop-left.left c.loop-left-test.true
    c.in_default.ensures.place) ∙ c.loop-left.invariant

pub run-run-requires : goal.run-run-requires
run-run-requires c = inside_there c.args.access c.args.regions.now c.in-Some.place c.loop-left.at 1 c.index-regions-place.result
    c.in-Some.ensures.place c.index-regions-place.is

pub returns-then-left-run : goal.returns-then-left-run
returns-then-left-run c = sym (run_whole c.args.access c.args.regions.now c.in-Some.place c.loop-left.at c.run-run.result c.loop-left.left
    c.index-regions-place.result c.requires c.in-Some.ensures.place c.index-regions-place.is c.run-run.ensures c.if-left-run.true)
    ∙ c.loop-left.invariant

pub loop-left-preserved : goal.loop-left-preserved
loop-left-preserved c = sym (run_more c.args.access c.args.regions.now c.in-Some.place c.loop-left.at c.run-run.result c.loop-left.left
    c.index-regions-place.result c.requires c.in-Some.ensures.place c.index-regions-place.is c.run-run.ensures c.if-left-run.false)
    ∙ c.loop-left.invariant

pub loop-left-smaller : goal.loop-left-smaller
loop-left-smaller c = let h = some_run c.args.access c.args.regions.now c.in-Some.place c.loop-left.at c.run-run.result
    c.index-regions-place.result c.in-Some.ensures.place c.index-regions-place.is c.run-run.ensures in omega (arith, h)

pub returns : goal.returns
returns c = sym (may_nothing (map span_of c.args.regions.now) (permission_of c.args.access) c.loop-left.at c.loop-left.left
    (let h = c.loop-left-test.false in omega arith)) ∙ c.loop-left.invariant
