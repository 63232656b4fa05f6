-- Why a call is refused, for all commands.
use Rattle.std.specs.Prelude.{ℕ, List, [], Option, Some, None}
use Rattle.flat_model.specs.Image.{Program}
use Rattle.flat_model.specs.Plan.{Planned}
use Rattle.command_words.specs.declared.values.RunOptions.{RunOptions}
use Rattle.command_words.specs.Commands.{CommandText, Run, Replay, Blocks, Disas, Generated}
use Rattle.journal_file.specs.Head.{Head}
use Rattle.call_inputs.specs.declared.refusals.Input.{Input}
use Rattle.call_inputs.specs.declared.refusals.Input.TheVariants.{File, Script, Journal}
use Rattle.call_inputs.specs.declared.refusals.Refusal.{Refusal}
use Rattle.call_inputs.specs.declared.refusals.Refusal.TheVariants as refusals
use Rattle.run_order.specs.InOrder.{Task}

-- the name of an input, by the command that names it; empty where it names none
abbrev pub name_or : Option (List ℕ) → List ℕ
name_or None = []
name_or (Some name) = name

abbrev pub name_of : CommandText → Input → List ℕ
name_of (Run options script journal file plugins) File = file
name_of (Run options script journal file plugins) Script = name_or script
name_of (Run options script journal file plugins) Journal = []
name_of (Replay options script file journal plugins) File = file
name_of (Replay options script file journal plugins) Script = name_or script
name_of (Replay options script file journal plugins) Journal = journal
name_of (Blocks file) File = file
name_of (Blocks file) input = []
name_of (Disas file) File = file
name_of (Disas file) input = []
name_of (Generated n) input = []

-- the input that a refusal speaks of
abbrev pub input_of : Refusal → Option Input
input_of (refusals.CannotRead input) = Some input
input_of (refusals.TooLong input) = Some input
input_of refusal = None

abbrev pub named_in : Option CommandText → Option Input → List ℕ
named_in None input = []
named_in (Some command) None = []
named_in (Some command) (Some input) = name_of command input

abbrev pub input_name : Option Input → List ℕ → Option (List ℕ) → List ℕ → List ℕ
input_name None file script journal = []
input_name (Some File) file script journal = file
input_name (Some Script) file script journal = name_or script
input_name (Some Journal) file script journal = journal

-- and by the names themselves
abbrev pub name_in : Refusal → List ℕ → Option (List ℕ) → List ℕ → List ℕ
name_in refusal file script journal = input_name (input_of refusal) file script journal

-- what a command's run is made with, as a journal file says it
abbrev pub head_for : RunOptions → Head
head_for options = record { harts = options.harts; mode = options.mode; limit = options.limit }

abbrev pub task_for : RunOptions → Program → Planned → Task
task_for options image plan = record {
  machine = record { image = image; harts = options.harts; limit = options.limit };
  mode = options.mode;
  plan = plan;
}
