-- A word that begins further right is read alike, with its refusal as much further right.
use Rattle.std.proofs.Common.{◌≡◌, ◌≤◌, ◌+◌, ◌-◌, ◌∷◌, [], ◌∙◌, ℕ, Bool, true, false, List, Option, Some, None, Result, Ok, Err, refl, sym, ap, arith}
use Rattle.std.proofs.Common.{cond, length}
use Rattle.flat_model.specs.declared.plugins.SetSpec.{SetSpec}
use Rattle.run_script.specs.declared.refusals.SpecRule.{SpecRule}
use Rattle.run_script.specs.declared.refusals.SpecRule.TheVariants.{Pair}
use Rattle.run_script.specs.declared.refusals.SpecRefusal.{SpecRefusal}
use Rattle.run_script.specs.declared.heads.Head.{Head}
use Rattle.run_script.specs.declared.items.Items.{Items}
use Rattle.run_script.specs.declared.fields.Fault.{Fault}
use Rattle.run_script.specs.declared.refusals.ScriptRule.TheVariants.{Word}
use Rattle.run_script.specs.Bytes.{plus, comma, pieces, before, after}
use Rattle.run_script.specs.Items.{is_paired}
use Rattle.run_script.specs.Words.{next, placed, with_text, items_from, items_after, with_sub, with_head, with_room, with_part, parts_from}
use Rattle.run_script.specs.Words.{spelt_from, spelt}
use Rattle.run_script.specs.Fields.{broken, of_word}

abbrev shift : {A : Type 0} → ℕ → Result A SpecRefusal → Result A SpecRefusal
shift d (Ok x) = Ok x
shift d (Err why) = Err (record { column = d + why.column; rule = why.rule })

placed_next : {A B : Type 0} (d column : ℕ) (r : Result A SpecRule) (f g : A → Result B SpecRefusal)
    → ((x : A) → f x ≡ shift d (g x)) → next (placed (d + column) r) f ≡ shift d (next (placed column r) g)
placed_next d column (Ok x) f g h = h x
placed_next d column (Err rule) f g h = refl

shift_next : {A B : Type 0} (d : ℕ) (r : Result A SpecRefusal) (f g : A → Result B SpecRefusal)
    → ((x : A) → f x ≡ shift d (g x)) → next (shift d r) f ≡ shift d (next r g)
shift_next d (Ok x) f g h = h x
shift_next d (Err why) f g h = refl

items_shift : (d column : ℕ) (head : Head) (items : Items) (texts : List (List ℕ))
    → items_from head (d + column) items texts ≡ shift d (items_from head column items texts)
items_shift d column head items [] = refl
items_shift d column head items (t ∷ ts) =
    let right : d + column + length t + 1 ≡ d + (column + length t + 1) = omega arith in
    placed_next d column (with_text head items t) (λ now. items_from head (d + column + length t + 1) now ts)
    (λ now. items_from head (column + length t + 1) now ts)
    (λ now. ap (λ c. items_from head c now ts) right ∙ items_shift d (column + length t + 1) head now ts)

after_shift : (d column : ℕ) (head : Head) (rest : Option (List ℕ)) → items_after head (d + column) rest ≡ shift d (items_after head column rest)
after_shift d column head None = refl
after_shift d column head (Some text) = items_shift d column head _ (pieces comma text)

abbrev paired : ℕ → SetSpec → Bool → Result SetSpec SpecRefusal
paired column set b = cond b (Ok set) (Err (record { column = column; rule = Pair }))

pair_shift : (d column : ℕ) (set : SetSpec) (b : Bool) → paired (d + column) set b ≡ shift d (paired column set b)
pair_shift d column set true = refl
pair_shift d column set false = refl

head_shift : (d column : ℕ) (set : SetSpec) (len : ℕ) (rest : Option (List ℕ)) (head : Head)
    → with_head (d + column) set len rest head ≡ shift d (with_head column set len rest head)
head_shift d column set len rest head =
    let right : d + column + len + 1 ≡ d + (column + len + 1) = omega arith in
    let f = λ (items : Items). paired (d + column) (with_sub set head items) (is_paired items) in
    let g = λ (items : Items). paired column (with_sub set head items) (is_paired items) in
    ap (λ c. next (items_after head c rest) f) right
    ∙ (ap (λ r. next r f) (after_shift d (column + len + 1) head rest)
    ∙ shift_next d (items_after head (column + len + 1) rest) f g
    (λ items. pair_shift d column (with_sub set head items) (is_paired items)))

part_shift : (d column : ℕ) (set : SetSpec) (text : List ℕ) → with_part (d + column) set text ≡ shift d (with_part column set text)
unfolding with_part
part_shift d column set text =
    placed_next d column (with_room set (before comma text)) (with_head (d + column) set (length (before comma text)) (after comma text))
    (with_head column set (length (before comma text)) (after comma text))
    (λ head. head_shift d column set (length (before comma text)) (after comma text) head)

parts_shift : (d column : ℕ) (set : SetSpec) (texts : List (List ℕ)) → parts_from (d + column) set texts ≡ shift d (parts_from column set texts)
parts_shift d column set [] = refl
parts_shift d column set (t ∷ ts) =
    let right : d + column + length t + 1 ≡ d + (column + length t + 1) = omega arith in
    let f = λ (now : SetSpec). parts_from (d + column + length t + 1) now ts in
    let g = λ (now : SetSpec). parts_from (column + length t + 1) now ts in
    ap (λ r. next r f) (part_shift d column set t)
    ∙ shift_next d (with_part column set t) f g
    (λ now. ap (λ c. parts_from c now ts) right ∙ parts_shift d (column + length t + 1) now ts)

-- a refusal at its column
abbrev pub at_fault : Result SetSpec SpecRefusal → Result SetSpec Fault
at_fault (Ok set) = Ok set
at_fault (Err why) = broken why.column (Word why.rule)

same_fault : (column d : ℕ) (r : Result SetSpec SpecRefusal) → column ≡ d + 1 → of_word column r ≡ at_fault (shift d r)
same_fault column d (Ok set) e = refl
same_fault column d (Err why) e =
    let place : column + why.column - 1 ≡ d + why.column = omega (arith, e) in
    ap (λ c. broken c (Word why.rule)) place

-- a word's refusal in a line
pub word_in_line : (column : ℕ) (text : List ℕ) → 1 ≤ column → of_word column (spelt text) ≡ at_fault (spelt_from column text)
word_in_line column text some =
    let d = column - 1 in
    let whole : column ≡ d + 1 = omega (arith, some) in
    same_fault column d (spelt text) whole
    ∙ ap at_fault (sym (ap (λ c. spelt_from c text) whole ∙ parts_shift d 1 _ (pieces plus text)))
