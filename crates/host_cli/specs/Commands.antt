-- The commands by what they do.
use Rattle.std.specs.Prelude.{ℕ, List, Option, Some, None, option_and_then}
use Rattle.code_listing.specs.declared.listings.ListingOf.{ListingOf}
use Rattle.code_listing.specs.declared.listings.ListingOf.TheVariants.{Instructions, Blocks}
use Rattle.command_words.specs.Commands.{CommandText, Run, Replay, Disas, Generated, command_of}
use Rattle.command_words.specs.Commands as words

abbrev pub list_command : ListingOf → List ℕ → CommandText
list_command Instructions file = Disas file
list_command Blocks file = words.Blocks file

-- a command that waits for nobody: `run` and `self` are none
abbrev pub unless_waiting : CommandText → Option CommandText
unless_waiting (Run options script journal file plugins) = None
unless_waiting (Replay options script file journal plugins) = Some (Replay options script file journal plugins)
unless_waiting (words.Blocks file) = Some (words.Blocks file)
unless_waiting (Disas file) = Some (Disas file)
unless_waiting (Generated n) = None

-- the command that words ask for, where no command that waits is in the grammar
unfoldable pub plain_command_of : List (List ℕ) → Option CommandText
plain_command_of texts = option_and_then unless_waiting (command_of texts)
