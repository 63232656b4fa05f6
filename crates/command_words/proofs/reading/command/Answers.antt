-- What is read is asked for, and what is asked for is read.
use Rattle.std.proofs.Common.{◌≡◌, ◌∙◌, List, Option, Some, None, Result, Ok, Err, IfOk, IfSome, sym}
use Rattle.flat_model.specs.declared.refusals.NoMemory.{NoMemory}
use Rattle.command_words.specs.declared.commands.Command.{Command}
use Rattle.command_words.specs.Words.{Text}
use Rattle.command_words.specs.Commands.{CommandText, command_of, command_text, command_seen}
use Rattle.command_words.specs.Grammar.{Asks}
use Rattle.command_words.proofs.Lines.{reads, asked}
use Rattle.command_words.proofs.reading.command.Goals as goal

abbrev Answer : Type 0
Answer = Result (Option Command) NoMemory

only : (answer : Answer) (words : List Text) → IfOk answer (λ r. command_seen r ≡ command_of words)
    → IfOk answer (λ r. IfSome r (λ c. Asks words (command_text c)))
only (Ok None) words e = tt
only (Ok (Some c)) words e = asked words (command_text c) (sym e)
only (Err why) words e = tt

all_read : (answer : Answer) (words : List Text) → IfOk answer (λ r. command_seen r ≡ command_of words)
    → (c : CommandText) → Asks words c → IfOk answer (λ r. command_seen r ≡ Some c)
all_read (Ok r) words e c asks = e ∙ reads words c asks
all_read (Err why) words e c asks = tt

pub returns-clause-only : goal.returns-clause-only
returns-clause-only c = only c.read.result _ c.read.ensures.value

pub returns-clause-reads : goal.returns-clause-reads
returns-clause-reads c = all_read c.read.result _ c.read.ensures.value
