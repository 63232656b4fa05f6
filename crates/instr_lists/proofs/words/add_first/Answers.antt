use Rattle.std.proofs.Common.{refl}
use Rattle.flat_model.specs.declared.events.What.TheVariants as what
use Rattle.instr_lists.proofs.Unstored.{code_event}
use Rattle.instr_lists.proofs.Told.{first_heard}
use Rattle.instr_lists.proofs.words.add_first.Goals as goal

pub returns-clause-heard : goal.returns-clause-heard
returns-clause-heard g c = λ classes has.
    let listed = c.args.list.now in
    first_heard classes listed c.args.words _ _ _ c.requires.some
    (c.add_start.ensures.heard classes has (code_event (what.Block listed.block.pc listed.block.n)) listed.block.n refl)
    (c.add_words.ensures.heard classes has)
