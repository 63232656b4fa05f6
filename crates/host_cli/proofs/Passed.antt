-- What a command ends with where nothing waits, as the answers of both calls.
use Rattle.std.proofs.Common.{◌≡◌, ℕ, List, Option, Some, None, ap}
use Rattle.std.specs.Prelude.{option_and_then}
use Rattle.call_inputs.specs.declared.refusals.Refusal.TheVariants.{Usage}
use Rattle.command_words.specs.Commands.{CommandText, Run, Replay, Blocks, Disas, Generated, command_of}
use Rattle.host_state.specs.State.{StateValue}
use Rattle.host_cli.specs.Answers.{Answers, Refuses}
use Rattle.host_cli.specs.Answers as host
use Rattle.host_cli.specs.Commands.{unless_waiting, plain_command_of}
use Rattle.host_cli.specs.Files.{FilesAround, AreRead}
use Rattle.host_cli.specs.Plain.{PlainAnswers, IsLeftOut, EndsPlainly}
use Rattle.host_cli.specs.Plain as plain
use Rattle.host_cli.specs.Sinks.{Around}

-- the command that is asked for, where none waits
plain_is : (words : List (List ℕ)) (command : CommandText) → command_of words ≡ Some command
    → plain_command_of words ≡ unless_waiting command
unfolding plain_command_of
plain_is words command is = ap (option_and_then unless_waiting) is

pub none_plain : (words : List (List ℕ)) → command_of words ≡ None → plain_command_of words ≡ None
unfolding plain_command_of
none_plain words is = ap (option_and_then unless_waiting) is

module _ (words : List (List ℕ)) (files : FilesAround) (out report : Around) where
  left_out : (command : CommandText) (status : ℕ) → command_of words ≡ Some command → IsLeftOut command → AreRead files
      → Refuses None Usage files out report status → PlainAnswers words files out report status None
  left_out (Run options script journal file plugins) status is left read put = plain.unasked status (plain_is words _ is) read put
  left_out (Replay options script file journal plugins) status is left read put = absurd left
  left_out (Blocks file) status is left read put = absurd left
  left_out (Disas file) status is left read put = absurd left
  left_out (Generated n) status is left read put = plain.unasked status (plain_is words _ is) read put

  -- those of the call that waits for nobody
  pub as_plain : (command : CommandText) (status : ℕ) (state : Option StateValue) → command_of words ≡ Some command
      → EndsPlainly files out report command status state → PlainAnswers words files out report status state
  as_plain _ _ _ is (plain.refused command status left read put) = left_out command status is left read put
  as_plain _ _ _ is (plain.replays options script file journal plugins status state answers) =
      plain.replays options script file journal plugins status state (plain_is words _ is) answers
  as_plain _ _ _ is (plain.lists_blocks file status answers) = plain.lists_blocks file status (plain_is words _ is) answers
  as_plain _ _ _ is (plain.lists_instructions file status answers) =
      plain.lists_instructions file status (plain_is words _ is) answers

  -- the commands that the call with threads passes on
  abbrev pub IsPassedOn : CommandText → Type 0
  IsPassedOn (Run options script journal file plugins) = ⊥
  IsPassedOn (Replay options script file journal plugins) = Unit {0}
  IsPassedOn (Blocks file) = Unit {0}
  IsPassedOn (Disas file) = Unit {0}
  IsPassedOn (Generated n) = ⊥

  none_left : (command : CommandText) (status : ℕ) → IsLeftOut command → IsPassedOn command → Answers words files out report status None
  none_left (Run options script journal file plugins) status left passed = absurd passed
  none_left (Replay options script file journal plugins) status left passed = absurd left
  none_left (Blocks file) status left passed = absurd left
  none_left (Disas file) status left passed = absurd left
  none_left (Generated n) status left passed = absurd passed

  pub as_host : (command : CommandText) (status : ℕ) (state : Option StateValue) → command_of words ≡ Some command → IsPassedOn command
      → EndsPlainly files out report command status state → Answers words files out report status state
  as_host _ _ _ is passed (plain.refused command status left read put) = none_left command status left passed
  as_host _ _ _ is passed (plain.replays options script file journal plugins status state answers) =
      host.replays options script file journal plugins status state is answers
  as_host _ _ _ is passed (plain.lists_blocks file status answers) = host.lists_blocks file status is answers
  as_host _ _ _ is passed (plain.lists_instructions file status answers) = host.lists_instructions file status is answers
