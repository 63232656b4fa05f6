-- The fields of a script's line, which stand between single spaces, each with the first rule that it breaks.
use Rattle.std.specs.Prelude.{ℕ, ◌+◌, ◌-◌, codes, nat_lt, nat_le, bytes_eq, if◌then◌else◌, List, [], ◌∷◌, length, slice_get}
use Rattle.std.specs.Prelude.{Option, Some, None, Result, Ok, Err}
use Rattle.std.specs.List.{list_all}
use Rattle.std.specs.Char.{is_ascii}
use Rattle.flat_model.specs.declared.plugins.SetSpec.{SetSpec}
use Rattle.run_script.specs.declared.refusals.SpecRefusal.{SpecRefusal}
use Rattle.run_script.specs.declared.refusals.ScriptRule.{ScriptRule}
use Rattle.run_script.specs.declared.refusals.ScriptRule.TheVariants.{Form, Number, Backwards, Word}
use Rattle.run_script.specs.declared.fields.Fault.{Fault}
use Rattle.run_script.specs.declared.fields.OrderName.{OrderName}
use Rattle.run_script.specs.declared.fields.OrderName.TheVariants.{Install, Register, Reset, Uninstall}
use Rattle.run_script.specs.Bytes.{space, pieces}
use Rattle.run_script.specs.Numbers.{number}
use Rattle.run_script.specs.Names.{named}
use Rattle.run_script.specs.Words.{next, spelt}

-- a rule that is broken at a column
abbrev pub broken : {A : Type 0} → ℕ → ScriptRule → Result A Fault
broken column rule = Err (record { column = column; rule = rule })

-- texts that stand between single signs, each with the column of its first byte
abbrev pub placed_from : ℕ → List (List ℕ) → List (ℕ × List ℕ)
placed_from column [] = []
placed_from column (text ∷ more) = (column, text) ∷ placed_from (column + length text + 1) more

-- the field of a number, from 0, with its column
abbrev pub field_at : ℕ → List ℕ → Option (ℕ × List ℕ)
field_at k line = slice_get (placed_from 1 (pieces space line)) k

abbrev pub ascii_field : List ℕ → Option (ℕ × List ℕ) → Result (ℕ × List ℕ) Fault
ascii_field line None = broken (length line + 1) Form
ascii_field line (Some field) = if list_all is_ascii field.1 then Ok field else broken field.0 Form

-- a field that a line is to have: a missing one and one with a byte that isn't ASCII break its form
unfoldable pub wanted_field : ℕ → List ℕ → Result (ℕ × List ℕ) Fault
wanted_field k line = ascii_field line (field_at k line)

abbrev pub judged : {A : Type 0} → ℕ → Result A ScriptRule → Result A Fault
judged column (Ok x) = Ok x
judged column (Err rule) = broken column rule

-- what is read from a field
abbrev pub read : {A : Type 0} → ℕ → List ℕ → (List ℕ → Result A ScriptRule) → Result A Fault
read k line reading = next (wanted_field k line) (λ f. judged f.0 (reading f.1))

-- the first field
abbrev pub opening : List ℕ → Result (Unit {0}) ScriptRule
opening text = if bytes_eq text (codes "at") then Ok tt else Err Form

abbrev pub not_before : ℕ → Option ℕ → Result ℕ ScriptRule
not_before least None = Err Number
not_before least (Some when) = if nat_lt when least then Err Backwards else Ok when

-- a moment that isn't less than the one before
abbrev pub moment : ℕ → List ℕ → Result ℕ ScriptRule
moment least text = not_before least (number 10 20 text)

-- the names of orders
abbrev pub order_names : List (OrderName × List ℕ)
order_names =
    (Install, codes "install") ∷ (Register, codes "register") ∷ (Reset, codes "reset") ∷ (Uninstall, codes "uninstall") ∷ []

abbrev pub of_name : Option OrderName → Result OrderName ScriptRule
of_name None = Err Form
of_name (Some name) = Ok name

abbrev pub order_name : List ℕ → Result OrderName ScriptRule
order_name text = of_name (named order_names text)

abbrev pub of_plug : Option ℕ → Result ℕ ScriptRule
of_plug None = Err Number
of_plug (Some n) = if nat_le n 255 then Ok n else Err Number

-- the number of a plug-in, at most 255
abbrev pub plug : List ℕ → Result ℕ ScriptRule
plug text = of_plug (number 10 20 text)

abbrev pub of_word : ℕ → Result SetSpec SpecRefusal → Result SetSpec Fault
of_word column (Ok set) = Ok set
of_word column (Err why) = broken (column + why.column - 1) (Word why.rule)

-- the set that a word spells; the place of what it breaks in the word is added to that of the word in its line
abbrev pub word : ℕ → List ℕ → Result SetSpec Fault
word k line = next (wanted_field k line) (λ f. of_word f.0 (spelt f.1))

abbrev pub surplus : Option (ℕ × List ℕ) → Result (Unit {0}) Fault
surplus None = Ok tt
surplus (Some field) = broken field.0 Form

-- a line of so many fields has no more
abbrev pub end : ℕ → List ℕ → Result (Unit {0}) Fault
end k line = surplus (field_at k line)

-- the number of a plug-in and the set with which a line ends
unfoldable pub last_plug : List ℕ → Result ℕ Fault
last_plug line = next (read 3 line plug) (λ n. next (end 4 line) (λ _. Ok n))

unfoldable pub last_word : ℕ → List ℕ → Result SetSpec Fault
last_word k line = next (word k line) (λ set. next (end (k + 1) line) (λ _. Ok set))
