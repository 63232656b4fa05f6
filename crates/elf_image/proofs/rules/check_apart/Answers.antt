use Rattle.std.proofs.Common.{sym, ◌∙◌}
use Rattle.elf_image.specs.Rules.{apart}
use Rattle.elf_image.proofs.RuleLaws.{overlap_found, lies_apart, overlap_none}
use Rattle.elf_image.proofs.rules.check_apart.Goals as goal

pub returns-in-Some : goal.returns-in-Some
unfolding apart
returns-in-Some c =
    let at = sym c.in-Some.is ∙ c.overlap.ensures in
    rw (sym c.requires) (sym c.loop-i.invariant ∙ overlap_found c.args.loads.now c.loop-i.i _ c.in-Some.refusal c.loop-i-test.true at)

pub loop-i-preserved : goal.loop-i-preserved
loop-i-preserved c =
    let at = sym c.in_default.is ∙ c.overlap.ensures in
    sym (lies_apart c.args.loads.now c.loop-i.i _ c.loop-i-test.true at) ∙ c.loop-i.invariant

pub returns : goal.returns
unfolding apart
returns c = rw (sym c.requires) (sym c.loop-i.invariant ∙ overlap_none c.args.loads.now c.loop-i.i c.loop-i-test.false)
