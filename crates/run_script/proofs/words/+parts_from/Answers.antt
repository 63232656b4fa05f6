-- A part that is refused ends the reading.
use Rattle.std.proofs.Common.{◌≡◌, ◌∙◌, ◌+◌, [], ℕ, List, length, Option, None, Some, Err, ap, refl, subst}
use Rattle.flat_model.specs.declared.plugins.SetSpec.{SetSpec}
use Rattle.flat_model.specs.declared.refusals.Refused.{Refused}
use Rattle.flat_model.specs.declared.refusals.Refused.TheVariants.{Because, NoMemory}
use Rattle.run_script.specs.declared.refusals.SpecRefusal.{SpecRefusal}
use Rattle.run_script.specs.declared.words.Draft.{Draft}
use Rattle.run_script.specs.Bytes.{before, after, pieces}
use Rattle.run_script.specs.Words.{next, with_part, parts_from, drafted, Gives}
use Rattle.run_script.proofs.Cuts.{whole, first_off}
use Rattle.run_script.proofs.words.+parts_from.Goals as goal

stops_at : (column : ℕ) (set : SetSpec) (text : List ℕ) (why : SpecRefusal) (rest : Option (List ℕ))
    → after 43 text ≡ rest → with_part column set (before 43 text) ≡ Err why
    → parts_from column set (pieces 43 text) ≡ Err why
stops_at column set text why None e refused =
    ap (parts_from column set) (whole 43 text e)
    ∙ ap (λ r. next r (λ now. parts_from (column + length (before 43 text) + 1) now [])) refused
stops_at column set text why (Some rest) e refused =
    ap (parts_from column set) (first_off 43 text rest e)
    ∙ ap (λ r. next r (λ now. parts_from (column + length (before 43 text) + 1) now (pieces 43 rest))) refused

stops : (why : Refused SpecRefusal) (column : ℕ) (set : SetSpec) (text : List ℕ)
    → Gives {A = Draft} drafted (Err why) (with_part column set (before 43 text))
    → Gives {A = Draft} drafted (Err why) (parts_from column set (pieces 43 text))
stops (Because why) column set text refused = stops_at column set text why _ refl refused
stops NoMemory column set text refused = tt

pub returns-in-Err-clause-value : goal.returns-in-Err-clause-value
returns-in-Err-clause-value t c =
    let Given : List ℕ → Type 0 = λ piece. Gives {A = Draft} drafted (Err c.in-Err.why) (with_part c.args.column (drafted c.args.draft) piece) in
    stops c.in-Err.why c.args.column (drafted c.args.draft) c.args.text.now
    (subst Given c.cut.ensures.front c.in-Err.ensures.value)
