-- The first line of a text, and the others.
use Rattle.std.proofs.Common.{◌≡◌, ◌<◌, ◌==◌, ◌∷◌, [], ◌∙◌, ℕ, false, List, length, Some, None, refl, ap, arith}
use Rattle.std.specs.Str.Lines.{strip_carriage_return, lines_of_parts, lines}
use Rattle.std.proofs.lemmas.Bool.{cond-false}
use Rattle.run_script.specs.Bytes.{before, after, pieces}
use Rattle.run_script.proofs.Cuts.{whole, first_off}
use Rattle.run_script.proofs.Signs.{before_none}
use Rattle.run_script.proofs.Tables.{pieces_some}

pub last_line : (text : List ℕ) → 0 < length text → after 10 text ≡ None → lines text ≡ before 10 text ∷ []
last_line text some e =
    let size : length text ≡ length (before 10 text) = ap length (before_none 10 text e) in
    let test : (length (before 10 text) == 0) ≡ false = grind arith in
    ap lines_of_parts (whole 10 text e) ∙ cond-false _ _ _ test

parts_more : (x : List ℕ) (parts : List (List ℕ)) → 0 < length parts
    → lines_of_parts (x ∷ parts) ≡ strip_carriage_return x ∷ lines_of_parts parts
parts_more x [] some = absurd (omega arith)
parts_more x (y ∷ ys) some = refl

pub more_lines : (text rest : List ℕ) → after 10 text ≡ Some rest → lines text ≡ strip_carriage_return (before 10 text) ∷ lines rest
more_lines text rest e = ap lines_of_parts (first_off 10 text rest e) ∙ parts_more (before 10 text) (pieces 10 rest) (pieces_some 10 rest)
