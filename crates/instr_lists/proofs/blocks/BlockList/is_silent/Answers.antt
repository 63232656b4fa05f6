use Rattle.std.proofs.Common.{◌≡◌, ◌∙◌, sym, ap, subst}
use Rattle.instr_lists.specs.Lists.{Listed}
use Rattle.instr_lists.specs.Silence.{at_all, is_deaf, is_silent}
use Rattle.instr_lists.proofs.Events.{has_classes}
use Rattle.instr_lists.proofs.Unstored.{skipped}
use Rattle.instr_lists.proofs.blocks.BlockList.is_silent.Goals as goal

the_same : goal.returns-clause-silent
the_same c =
    subst (λ (v : Listed). c.is_silent.result ≡ is_silent v.block v.sets) c.self.view_is
    (c.is_silent.ensures.silent ∙ ap (at_all is_deaf c.self.inside.lists.sets) c.self.invariant.0)

pub returns-clause-silent : goal.returns-clause-silent
returns-clause-silent = the_same

pub returns-clause-skips : goal.returns-clause-skips
returns-clause-skips c = λ is image block es lie ws.
    let listed = c.args.self.now in
    skipped _ listed.block listed.sets (has_classes image listed.block block) (sym (the_same c) ∙ is) es lie ws
