-- What a call answers that waits for nobody, in whose grammar `run` and `self` are no commands.
use Rattle.std.specs.Prelude.{◌≡◌, ℕ, List, Option, Some, None}
use Rattle.code_listing.specs.declared.listings.ListingOf.TheVariants.{Instructions}
use Rattle.code_listing.specs.declared.listings.ListingOf.TheVariants as listings
use Rattle.command_words.specs.declared.values.RunOptions.{RunOptions}
use Rattle.command_words.specs.Commands.{CommandText, Run, Replay, Blocks, Disas, Generated}
use Rattle.call_inputs.specs.declared.refusals.Refusal.TheVariants.{Usage}
use Rattle.host_state.specs.State.{StateValue}
use Rattle.host_cli.specs.Answers.{Refuses, ListAnswers, ReplayAnswers}
use Rattle.host_cli.specs.Commands.{plain_command_of}
use Rattle.host_cli.specs.Ends.{out_of_memory_line}
use Rattle.host_cli.specs.Files.{FilesAround, AreRead, AreKept}
use Rattle.host_cli.specs.Sinks.{Around, WasTold, IsSilent}

-- the ways in which such a call ends
pub data PlainAnswers (words : List (List ℕ)) (files : FilesAround) (out report : Around) : ℕ → Option StateValue → Type 0 where
  -- no memory to read the words
  starved : AreRead files → WasTold report out_of_memory_line → IsSilent out → AreKept files → PlainAnswers words files out report 7 None
  unasked : (status : ℕ) → plain_command_of words ≡ None → AreRead files → Refuses None Usage files out report status
      → PlainAnswers words files out report status None
  replays : (options : RunOptions) (script : Option (List ℕ)) (file journal : List ℕ) (plugins : List (List ℕ))
      (status : ℕ) (state : Option StateValue)
      → plain_command_of words ≡ Some (Replay options script file journal plugins)
      → ReplayAnswers options script file journal plugins files out report status state
      → PlainAnswers words files out report status state
  lists_blocks : (file : List ℕ) (status : ℕ) → plain_command_of words ≡ Some (Blocks file)
      → ListAnswers (Blocks file) listings.Blocks file files out report status
      → PlainAnswers words files out report status None
  lists_instructions : (file : List ℕ) (status : ℕ) → plain_command_of words ≡ Some (Disas file)
      → ListAnswers (Disas file) Instructions file files out report status
      → PlainAnswers words files out report status None

-- the commands that aren't carried out without waiting
abbrev pub IsLeftOut : CommandText → Type 0
IsLeftOut (Run options script journal file plugins) = Unit {0}
IsLeftOut (Replay options script file journal plugins) = ⊥
IsLeftOut (Blocks file) = ⊥
IsLeftOut (Disas file) = ⊥
IsLeftOut (Generated n) = Unit {0}

-- how a command ends where nothing waits: those that are left out are refused as words that are no command
pub data EndsPlainly (files : FilesAround) (out report : Around) : CommandText → ℕ → Option StateValue → Type 0 where
  refused : (command : CommandText) (status : ℕ) → IsLeftOut command → AreRead files → Refuses None Usage files out report status
      → EndsPlainly files out report command status None
  replays : (options : RunOptions) (script : Option (List ℕ)) (file journal : List ℕ) (plugins : List (List ℕ))
      (status : ℕ) (state : Option StateValue)
      → ReplayAnswers options script file journal plugins files out report status state
      → EndsPlainly files out report (Replay options script file journal plugins) status state
  lists_blocks : (file : List ℕ) (status : ℕ) → ListAnswers (Blocks file) listings.Blocks file files out report status
      → EndsPlainly files out report (Blocks file) status None
  lists_instructions : (file : List ℕ) (status : ℕ) → ListAnswers (Disas file) Instructions file files out report status
      → EndsPlainly files out report (Disas file) status None
