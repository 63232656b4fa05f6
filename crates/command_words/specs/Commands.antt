-- The command that words ask for. `docs/command-line.md` has the grammar.
use Rattle.std.specs.Prelude.{ℕ, ◌*◌, ◌≤◌, Bool, true, false, nat_le, if◌then◌else◌, List, [], ◌∷◌, codes}
use Rattle.std.specs.Prelude.{Option, Some, None, option_map}
use Rattle.std.specs.List.{list_all}
use Rattle.flat_model.specs.declared.journals.Mode.{Mode}
use Rattle.flat_model.specs.declared.journals.Mode.TheVariants.{All, First}
use Rattle.flat_model.specs.declared.limits.TheConstants.{HARTS_MOST, LIMIT_DEFAULT, LIMIT_MOST, TOTAL_MOST}
use Rattle.command_words.specs.declared.words.Verb.{Verb}
use Rattle.command_words.specs.declared.words.Verb.TheVariants as verbs
use Rattle.command_words.specs.declared.words.OptionName.{OptionName}
use Rattle.command_words.specs.declared.words.OptionName.TheVariants.{Harts, Limit, Start, Script, Journal}
use Rattle.command_words.specs.declared.values.RunOptions.{RunOptions}
use Rattle.command_words.specs.declared.commands.Command.{Command}
use Rattle.command_words.specs.declared.commands.Command.TheVariants as code
use Rattle.command_words.specs.declared.numbers.TheConstants.{GENERATED_MOST}
use Rattle.command_words.specs.Words.{Text, named, verb_named}
use Rattle.command_words.specs.Numbers.{number_within}
use Rattle.command_words.specs.Parts.{PartText, parts_of, texts_of, text_seen, texts_seen}

-- ---- the values of options

-- a number from 1 to `most`: the default where none is given, and refused where two are
abbrev pub number_given : ℕ → ℕ → List Text → Option ℕ
number_given default most [] = Some default
number_given default most (text ∷ []) = number_within most text
number_given default most texts = None

abbrev pub mode_names : List (Mode × Text)
mode_names = (All, codes "all") ∷ (First, codes "first") ∷ []

abbrev pub mode_given : List Text → Option Mode
mode_given [] = Some All
mode_given (text ∷ []) = named mode_names text
mode_given texts = None

-- the name of a file, or none
abbrev pub name_given : List Text → Option (Option Text)
name_given [] = Some None
name_given (text ∷ []) = Some (Some text)
name_given texts = None

-- all harts together take at most so many steps
abbrev pub options_from : Option ℕ → Option ℕ → Option Mode → Option RunOptions
options_from (Some harts) (Some limit) (Some mode) =
    if nat_le (harts * limit) TOTAL_MOST then Some (record { harts = harts; limit = limit; mode = mode }) else None
options_from harts limit mode = None

unfoldable pub options_of : List PartText → Option RunOptions
options_of parts = options_from
    (number_given 1 HARTS_MOST (texts_of (Some Harts) parts))
    (number_given LIMIT_DEFAULT LIMIT_MOST (texts_of (Some Limit) parts))
    (mode_given (texts_of (Some Start) parts))

-- ---- commands

pub data CommandText : Type 0 where
  -- options, script, journal, file and plug-in words
  Run : RunOptions → Option Text → Option Text → Text → List Text → CommandText
  -- options, script, file, journal and plug-in words
  Replay : RunOptions → Option Text → Text → Text → List Text → CommandText
  Blocks : Text → CommandText
  Disas : Text → CommandText
  Generated : ℕ → CommandText

-- the options that a command takes
abbrev pub takes : Verb → OptionName → Bool
takes verbs.Run name = true
takes verbs.Replay Journal = false
takes verbs.Replay name = true
takes verb name = false

abbrev pub is_taken : Verb → Option OptionName → Bool
is_taken verb None = true
is_taken verb (Some name) = takes verb name

abbrev pub all_taken : Verb → List PartText → Bool
all_taken verb parts = list_all (λ p. is_taken verb p.option) parts

abbrev pub run_from : Option RunOptions → Option (Option Text) → Option (Option Text) → Text → List Text → Option CommandText
run_from (Some options) (Some script) (Some journal) file plugins = Some (Run options script journal file plugins)
run_from options script journal file plugins = None

-- a file, and the plug-ins' words
abbrev pub run_with : List PartText → List Text → Option CommandText
run_with parts [] = None
run_with parts (file ∷ plugins) =
    run_from (options_of parts) (name_given (texts_of (Some Script) parts)) (name_given (texts_of (Some Journal) parts)) file plugins

abbrev pub replay_from : Option RunOptions → Option (Option Text) → Text → Text → List Text → Option CommandText
replay_from (Some options) (Some script) file journal plugins = Some (Replay options script file journal plugins)
replay_from options script file journal plugins = None

-- a file, its journal, and the plug-ins' words
abbrev pub replay_with : List PartText → List Text → Option CommandText
replay_with parts (file ∷ journal ∷ plugins) =
    replay_from (options_of parts) (name_given (texts_of (Some Script) parts)) file journal plugins
replay_with parts plain = None

abbrev pub generated : Text → Option CommandText
generated word = option_map (λ n. Generated n) (number_within GENERATED_MOST word)

-- one word
abbrev pub command_on : Verb → List Text → Option CommandText
command_on verbs.Blocks (file ∷ []) = Some (Blocks file)
command_on verbs.Disas (file ∷ []) = Some (Disas file)
command_on verbs.Generated (n ∷ []) = generated n
command_on verb plain = None

-- the command of a verb with its options and plain words, of which none is missing and none is left over
abbrev pub command_with : Verb → List PartText → List Text → Option CommandText
command_with verbs.Run parts plain = run_with parts plain
command_with verbs.Replay parts plain = replay_with parts plain
command_with verb parts plain = command_on verb plain

abbrev pub command_from : Option Verb → Option (List PartText) → Option CommandText
command_from (Some verb) (Some parts) =
    if all_taken verb parts then command_with verb parts (texts_of None parts) else None
command_from verb parts = None

-- the command that words ask for; none where they aren't in the grammar
unfoldable pub command_of : List Text → Option CommandText
command_of [] = None
command_of (verb ∷ words) = command_from (verb_named verb) (parts_of None words)

-- ---- what the code's values are

abbrev pub command_text : Command → CommandText
command_text (code.Run options script journal file plugins) =
    Run options (text_seen script) (text_seen journal) file.now (texts_seen plugins.items)
command_text (code.Replay options script file journal plugins) =
    Replay options (text_seen script) file.now journal.now (texts_seen plugins.items)
command_text (code.Blocks file) = Blocks file.now
command_text (code.Disas file) = Disas file.now
command_text (code.Generated n) = Generated n

abbrev pub command_seen : Option Command → Option CommandText
command_seen command = option_map command_text command

-- ---- the limits that every command keeps

pub record IsWithin (options : RunOptions) : Type 0 where
  pub some_harts : 1 ≤ options.harts
  pub few_harts : options.harts ≤ HARTS_MOST
  pub some_steps : 1 ≤ options.limit
  pub few_steps : options.limit ≤ LIMIT_MOST
  pub few_together : options.harts * options.limit ≤ TOTAL_MOST

abbrev pub KeepsLimits : Command → Type 0
KeepsLimits (code.Run options script journal file plugins) = IsWithin options
KeepsLimits (code.Replay options script file journal plugins) = IsWithin options
KeepsLimits (code.Blocks file) = Unit {0}
KeepsLimits (code.Disas file) = Unit {0}
KeepsLimits (code.Generated n) = (1 ≤ n) × (n ≤ GENERATED_MOST)
