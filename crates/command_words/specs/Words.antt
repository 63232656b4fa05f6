-- What a word of a command line is. `docs/command-line.md` has the grammar.
use Rattle.std.specs.Prelude.{ℕ, ◌==◌, Bool, true, false, nat_lt, if◌then◌else◌, List, [], ◌∷◌, length, codes}
use Rattle.std.specs.Prelude.{Option, Some, None, unwrap_or}
use Rattle.std.specs.Str.{bytes_eq}
use Rattle.std.specs.List.{before_first, after_first, position_or_len}
use Rattle.command_words.specs.declared.words.Verb.{Verb}
use Rattle.command_words.specs.declared.words.Verb.TheVariants.{Run, Replay, Blocks, Disas, Generated}
use Rattle.command_words.specs.declared.words.OptionName.{OptionName}
use Rattle.command_words.specs.declared.words.OptionName.TheVariants.{Harts, Limit, Start, Script, Journal}
use Rattle.command_words.specs.declared.words.Sort.{Sort}
use Rattle.command_words.specs.declared.words.Sort.TheVariants.{Plain, End, Bare, Valued, Wrong}

abbrev pub Text : Type 0
Text = List ℕ

abbrev pub is_empty : Text → Bool
is_empty [] = true
is_empty (first ∷ rest) = false

-- a word that isn't empty, and doesn't begin as an option does, with `-`
abbrev pub is_plain : Text → Bool
is_plain [] = false
is_plain (first ∷ rest) = if first == 45 then false else true

-- what a text names in a table
abbrev pub named : {A : Type 0} → List (A × Text) → Text → Option A
named [] text = None
named (row ∷ rows) text = if bytes_eq text row.1 then Some row.0 else named rows text

abbrev pub verb_names : List (Verb × Text)
verb_names =
    (Run, codes "run") ∷ (Replay, codes "replay") ∷ (Blocks, codes "blocks") ∷ (Disas, codes "disas")
    ∷ (Generated, codes "self") ∷ []

abbrev pub verb_named : Text → Option Verb
verb_named word = named verb_names word

abbrev pub option_names : List (OptionName × Text)
option_names =
    (Harts, codes "--harts") ∷ (Limit, codes "--limit") ∷ (Start, codes "--start") ∷ (Script, codes "--script")
    ∷ (Journal, codes "--journal") ∷ []

abbrev pub option_named : Text → Option OptionName
option_named word = named option_names word

-- what stands before the first `=`: all where there is none
abbrev pub front : Text → Text
front word = before_first (λ b. b == 61) word

-- what stands after the first `=`, where there is one
abbrev pub back : Text → Option Text
back word = if nat_lt (position_or_len (λ b. b == 61) word) (length word) then Some (after_first (λ b. b == 61) word) else None

-- the name of an option, alone or with a value that isn't empty
abbrev pub named_sort : Option OptionName → Option Text → Sort
named_sort None value = Wrong
named_sort (Some name) None = Bare name
named_sort (Some name) (Some value) = if is_empty value then Wrong else Valued name

-- what a word before `--` is
unfoldable pub sort_of : Text → Sort
sort_of word =
    if is_plain word then Plain
    else if bytes_eq word (codes "--") then End
    else named_sort (option_named (front word)) (back word)

-- the value that a word has after `=`
unfoldable pub value_in : Text → Text
value_in word = unwrap_or (back word) []
