use Rattle.std.proofs.Common.{sym, ◌∙◌}
use Rattle.flat_model.proofs.Codes.{code_found}
use Rattle.flat_model.proofs.images.code_region.Goals as goal

pub returns-then-has_code-clause-found : goal.returns-then-has_code-clause-found
returns-then-has_code-clause-found c =
    code_found c.args.regions.now c.args.pc c.likely-guess.result c.index-regions-guess.result c.requires.apart c.if-guess-regions.true c.index-regions-guess.is (sym c.has_code.ensures.code ∙ c.if-has_code.true)
