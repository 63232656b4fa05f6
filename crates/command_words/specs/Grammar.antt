-- The grammar of command lines, from a command to its words: an option is written in two ways and anywhere among the
-- plain words, so a command has many lines. `docs/command-line.md` has the rules.
use Rattle.std.specs.Prelude.{◌≡◌, ◌⊎◌, true, false, not, List, [], ◌∷◌, ◌++◌, map, codes, Option, Some, None}
use Rattle.std.specs.List.{list_all}
use Rattle.command_words.specs.declared.words.Verb.{Verb}
use Rattle.command_words.specs.declared.words.Verb.TheVariants.{Run, Replay, Blocks, Disas, Generated}
use Rattle.command_words.specs.declared.words.OptionName.{OptionName}
use Rattle.command_words.specs.declared.words.OptionName.TheVariants.{Harts, Limit, Start, Script, Journal}
use Rattle.command_words.specs.Words.{Text, is_empty, is_plain}
use Rattle.command_words.specs.Parts.{PartText, part, texts_of}
use Rattle.command_words.specs.Commands.{CommandText, all_taken, command_with}

abbrev pub verb_text : Verb → Text
verb_text Run = codes "run"
verb_text Replay = codes "replay"
verb_text Blocks = codes "blocks"
verb_text Disas = codes "disas"
verb_text Generated = codes "self"

abbrev pub option_text : OptionName → Text
option_text Harts = codes "--harts"
option_text Limit = codes "--limit"
option_text Start = codes "--start"
option_text Script = codes "--script"
option_text Journal = codes "--journal"

-- an option and its value in a word each, or in one word with `=` between them
abbrev pub SpellsOption : OptionName → Text → List Text → Type 0
SpellsOption name value words =
    ((is_plain value ≡ true) × (words ≡ option_text name ∷ value ∷ []))
    ⊎ ((is_empty value ≡ false) × (words ≡ (option_text name ++ 61 ∷ value) ∷ []))

-- the words of a part before `--`
abbrev pub SpellsPart : Option OptionName → Text → List Text → Type 0
SpellsPart None text words = (is_plain text ≡ true) × (words ≡ text ∷ [])
SpellsPart (Some name) text words = SpellsOption name text words

-- one part after the other
abbrev pub SpellsParts : List PartText → List Text → Type 0
SpellsParts [] words = words ≡ []
SpellsParts (p ∷ more) words =
    (first rest : List Text) × SpellsPart p.option p.text first × SpellsParts more rest × (words ≡ first ++ rest)

-- parts, then the word `--`, and then plain words that may begin with `-`, but aren't empty
pub record SpellsEnded (parts : List PartText) (words : List Text) : Type 0 where
  pub before : List PartText
  pub front : List Text
  pub plain : List Text
  pub spelt : SpellsParts before front
  pub some : list_all (λ word. not (is_empty word)) plain ≡ true
  pub parts_are : parts ≡ before ++ map (part None) plain
  pub words_are : words ≡ front ++ codes "--" ∷ plain

abbrev pub SpellsLine : List PartText → List Text → Type 0
SpellsLine parts words = SpellsParts parts words ⊎ SpellsEnded parts words

-- the words ask for the command: they are its verb and a line of parts with options that it takes, which give it
pub record Asks (words : List Text) (command : CommandText) : Type 0 where
  pub verb : Verb
  pub line : List Text
  pub parts : List PartText
  pub words_are : words ≡ verb_text verb ∷ line
  pub spelt : SpellsLine parts line
  pub taken : all_taken verb parts ≡ true
  pub gives : command_with verb parts (texts_of None parts) ≡ Some command
