-- A text is its first line and the others.
use Rattle.std.proofs.Common.{◌∙◌, ◌∷◌, [], sym, ap}
use Rattle.std.specs.Prelude.{option_map}
use Rattle.std.specs.Str.Lines.{strip_carriage_return, lines}
use Rattle.run_script.proofs.LineCuts.{last_line, more_lines}
use Rattle.run_script.proofs.scripts.first_line.Goals as goal

pub returns-in-None-clause-lines : goal.returns-in-None-clause-lines
returns-in-None-clause-lines c =
    last_line c.args.text.now c.requires (sym c.cut.ensures.back ∙ ap (option_map (λ r. r.now)) c.in-None.is)
    ∙ ap (λ l. l ∷ []) (sym c.cut.ensures.front)

pub returns-in-Some-clause-lines : goal.returns-in-Some-clause-lines
returns-in-Some-clause-lines c =
    more_lines c.args.text.now c.in-Some.rest.now (sym c.cut.ensures.back ∙ ap (option_map (λ r. r.now)) c.in-Some.is)
    ∙ ap (λ l. l ∷ lines c.in-Some.rest.now) (sym (c.without_return.ensures ∙ ap strip_carriage_return c.cut.ensures.front))
