-- The run of a generated program: what it is made of, why it can't begin, and how it ends.
use Rattle.std.specs.Prelude.{◌≡◌, ℕ, List, [], ◌∷◌, codes, Option, Some}
use Rattle.flat_model.specs.declared.journals.Mode.TheVariants.{All}
use Rattle.flat_model.specs.declared.limits.TheConstants.{LIMIT_DEFAULT}
use Rattle.flat_model.specs.Image.{Program}
use Rattle.flat_model.specs.Plan.{Planned}
use Rattle.elf_image.specs.declared.refusals.ImageRefusal.{ImageRefusal}
use Rattle.elf_image.specs.Loads.{Loads}
use Rattle.elf_image.specs.Loads as elf
use Rattle.guest_gen.specs.Program.{IsProgram}
use Rattle.command_words.specs.declared.values.RunOptions.{RunOptions}
use Rattle.call_inputs.specs.declared.refusals.Refusal.{Refusal}
use Rattle.call_inputs.specs.declared.refusals.Refusal.TheVariants.{CannotRead, TooLong, Image, OutOfMemory}
use Rattle.call_inputs.specs.Causes.{WordsCause}
use Rattle.call_inputs.specs.Inputs.{AreInstalls}
use Rattle.host_state.specs.State.{StateValue}
use Rattle.report_text.specs.Report.{status_after}
use Rattle.host_cli.specs.Ends.{out_of_memory_line}
use Rattle.host_cli.specs.Sinks.{Around, Says, StopsAt, WasTold, IsSilent}
use Rattle.host_cli.specs.Summary.{summary_of}

-- two harts, 1,000,000 steps for each, and all harts from the first
abbrev pub generated_options : RunOptions
generated_options = record { harts = 2; limit = LIMIT_DEFAULT; mode = All }

-- its plug-in words
abbrev pub generated_words : List (List ℕ)
generated_words = codes "classes" ∷ []

-- the image is that of the program of n
pub record IsGenerated (n : ℕ) (image : Program) : Type 0 where
  pub file : List ℕ
  pub is_program : IsProgram n file
  pub loads : Loads file image

-- the plan is that of a run of the program's file with these words and without a script
pub record IsGeneratedPlan (plan : Planned) : Type 0 where
  pub installs : AreInstalls generated_options.harts generated_words plan.installs
  pub lines : plan.script ≡ []

-- why it can't begin: the loader refuses the program, then the plug-in words give no installs; or there is too little memory
pub data GeneratedCause (n : ℕ) : Refusal → Type 0 where
  by_image : (file : List ℕ) (why : ImageRefusal) → IsProgram n file → elf.Refuses file why → GeneratedCause n (Image why)
  by_words : (image : Program) (refusal : Refusal) → IsGenerated n image → WordsCause generated_options.harts generated_words refusal
      → GeneratedCause n refusal
  starved : GeneratedCause n OutOfMemory

-- what a name has is the file of the program of n
pub record HoldsProgram (n : ℕ) (held : Option (List ℕ)) : Type 0 where
  pub file : List ℕ
  pub is_program : IsProgram n file
  pub is_held : held ≡ Some file

-- a refusal where the file is in memory: a read that fails there is want of memory
abbrev pub in_memory : Refusal → Refusal
in_memory (CannotRead input) = OutOfMemory
in_memory (TooLong input) = OutOfMemory
in_memory refusal = refusal

-- how it ends, once it is whole: its summary is put, and no report
pub data SummaryEnds (n : ℕ) (s : StateValue) (out report : Around) : ℕ → Type 0 where
  summed : Says out (summary_of n s.task s.past) → IsSilent report → SummaryEnds n s out report (status_after s.task s.past)
  cut_short : StopsAt out (summary_of n s.task s.past) → IsSilent report → SummaryEnds n s out report 6
  unmade : IsSilent out → WasTold report out_of_memory_line → SummaryEnds n s out report 7
