-- An item that is refused ends the reading.
use Rattle.std.proofs.Common.{◌≡◌, ◌∙◌, ◌+◌, [], ℕ, List, length, Option, None, Some, Err, sym, ap, refl}
use Rattle.run_script.specs.declared.refusals.SpecRefusal.{SpecRefusal}
use Rattle.run_script.specs.declared.heads.Head.{Head}
use Rattle.run_script.specs.declared.items.Items.{Items}
use Rattle.run_script.specs.Bytes.{before, after, pieces}
use Rattle.run_script.specs.Words.{next, placed, with_text, items_from}
use Rattle.run_script.proofs.Cuts.{whole, first_off}
use Rattle.run_script.proofs.words.+items_from.Goals as goal

stops_at : (head : Head) (column : ℕ) (items : Items) (text : List ℕ) (why : SpecRefusal) (rest : Option (List ℕ))
    → after 44 text ≡ rest → placed column (with_text head items (before 44 text)) ≡ Err why
    → items_from head column items (pieces 44 text) ≡ Err why
stops_at head column items text why None e refused =
    ap (items_from head column items) (whole 44 text e)
    ∙ ap (λ r. next r (λ now. items_from head (column + length (before 44 text) + 1) now [])) refused
stops_at head column items text why (Some rest) e refused =
    ap (items_from head column items) (first_off 44 text rest e)
    ∙ ap (λ r. next r (λ now. items_from head (column + length (before 44 text) + 1) now (pieces 44 rest))) refused

pub returns-in-Err : goal.returns-in-Err
returns-in-Err t c =
    sym (stops_at c.args.head c.args.column c.args.items c.args.text.now c.in-Err.why _ refl
    (ap (λ piece. placed c.args.column (with_text c.args.head c.args.items piece)) (sym c.cut.ensures.front)
    ∙ sym c.in-Err.ensures))
