use Rattle.std.proofs.Common.{ap, ◌∙◌, ◌++◌}
use Rattle.guest_gen.proofs.Sections.{section_put}
use Rattle.guest_gen.proofs.instructions.put_sections.Goals as goal

pub loop-i-preserved : goal.loop-i-preserved
loop-i-preserved c =
    section_put c.args.code.now.items c.loop-i.code.items c.extend_from_slice.new.self.items c.loop-i.i c.loop-i.invariant
    (c.in_ok-extend_from_slice.ensures.items ∙ ap (λ more. c.loop-i.code.items ++ more) c.section.ensures)
