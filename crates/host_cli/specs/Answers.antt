-- What a call answers, prints and writes, by the command that its words ask for.
use Rattle.std.specs.Prelude.{◌≡◌, ◌⊎◌, ℕ, List, Option, Some, None}
use Rattle.flat_model.specs.Image.{Program}
use Rattle.flat_model.specs.Plan.{Planned}
use Rattle.code_listing.specs.declared.listings.ListingOf.{ListingOf}
use Rattle.code_listing.specs.declared.listings.ListingOf.TheVariants.{Instructions}
use Rattle.code_listing.specs.declared.listings.ListingOf.TheVariants as listings
use Rattle.code_listing.specs.Listings.{IsListing}
use Rattle.journal_file.specs.Head.{FileState}
use Rattle.command_words.specs.declared.values.RunOptions.{RunOptions}
use Rattle.command_words.specs.Commands.{CommandText, Run, Replay, Blocks, Disas, Generated, command_of}
use Rattle.call_inputs.specs.declared.refusals.Refusal.{Refusal}
use Rattle.call_inputs.specs.declared.refusals.Refusal.TheVariants.{Usage, OutOfMemory}
use Rattle.call_inputs.specs.Causes.{RunCause, ReplayCause, ImageCause}
use Rattle.call_inputs.specs.Inputs.{IsImageOf, IsPlanOf}
use Rattle.call_inputs.specs.Lines.{refusal_status, refusal_line}
use Rattle.host_core.specs.Runs.{IsRunOf}
use Rattle.run_replay.specs.Replays.{IsReplayOf}
use Rattle.host_state.specs.State.{StateValue}
use Rattle.host_cli.specs.Ends.{RunEnds, out_of_memory_line}
use Rattle.host_cli.specs.Files.{FilesAround, storage, AreRead, AreKept}
use Rattle.host_cli.specs.Generated.{generated_options, IsGenerated, IsGeneratedPlan, GeneratedCause, SummaryEnds}
use Rattle.host_cli.specs.Refusals.{input_of, named_in, head_for, task_for}
use Rattle.host_cli.specs.Replays.{AreReplayed, ReplayedCause}
use Rattle.host_cli.specs.Sinks.{Around, Says, StopsAt, WasTold, IsSilent}

-- a refusal's line was put and its status is answered, or those of want of memory, which the line itself may meet; nothing else happened
pub record Refuses (command : Option CommandText) (refusal : Refusal) (files : FilesAround) (out report : Around) (status : ℕ) : Type 0
  where
    pub put : Refusal
    pub is_it : (put ≡ refusal) ⊎ (put ≡ OutOfMemory)
    pub status_is : status ≡ refusal_status put
    pub line : WasTold report (refusal_line (named_in command (input_of put)) put)
    pub silent : IsSilent out
    pub kept : AreKept files

-- `run`: it is refused, or its run is whole and ends so
pub data RunAnswers (options : RunOptions) (script journal : Option (List ℕ)) (file : List ℕ) (plugins : List (List ℕ))
    (files : FilesAround) (out report : Around) : ℕ → Option StateValue → Type 0 where
  refused : (refusal : Refusal) (status : ℕ)
      → RunCause (storage files) options.harts file plugins script files.reads_before files.reads_now refusal
      → Refuses (Some (Run options script journal file plugins)) refusal files out report status
      → RunAnswers options script journal file plugins files out report status None
  ran : (image : Program) (plan : Planned) (s : StateValue) (status : ℕ)
      → IsImageOf (storage files) file image
      → IsPlanOf (storage files) options.harts plugins script plan
      → AreRead files
      → IsRunOf (task_for options image plan) s
      → RunEnds s journal files out report status
      → RunAnswers options script journal file plugins files out report status (Some s)

-- `replay`: it is refused, all that it names was read and it isn't replayed, or its replay is whole and ends so
pub data ReplayAnswers (options : RunOptions) (script : Option (List ℕ)) (file journal : List ℕ) (plugins : List (List ℕ))
    (files : FilesAround) (out report : Around) : ℕ → Option StateValue → Type 0 where
  refused : (refusal : Refusal) (status : ℕ)
      → ReplayCause (storage files) (head_for options) file journal plugins script files.reads_before files.reads_now refusal
      → Refuses (Some (Replay options script file journal plugins)) refusal files out report status
      → ReplayAnswers options script file journal plugins files out report status None
  unreplayed : (image : Program) (plan : Planned) (held : FileState) (refusal : Refusal) (status : ℕ)
      → AreReplayed (storage files) options script file journal plugins image plan held
      → AreRead files
      → ReplayedCause (task_for options image plan) held.entries refusal
      → Refuses (Some (Replay options script file journal plugins)) refusal files out report status
      → ReplayAnswers options script file journal plugins files out report status None
  replayed : (image : Program) (plan : Planned) (held : FileState) (s : StateValue) (status : ℕ)
      → AreReplayed (storage files) options script file journal plugins image plan held
      → AreRead files
      → IsReplayOf (task_for options image plan) held.entries s
      → RunEnds s None files out report status
      → ReplayAnswers options script file journal plugins files out report status (Some s)

-- `disas` and `blocks`: refused, or the listing of the image is put
pub data ListAnswers (command : CommandText) (what : ListingOf) (file : List ℕ) (files : FilesAround) (out report : Around) : ℕ → Type 0
  where
    refused : (refusal : Refusal) (status : ℕ)
        → ImageCause (storage files) file files.reads_before files.reads_now refusal
        → Refuses (Some command) refusal files out report status
        → ListAnswers command what file files out report status
    listed : (image : Program) (text : List ℕ)
        → IsImageOf (storage files) file image → AreRead files → IsListing what image text
        → Says out text → IsSilent report → AreKept files
        → ListAnswers command what file files out report 0
    cut : (image : Program) (text : List ℕ)
        → IsImageOf (storage files) file image → AreRead files → IsListing what image text
        → StopsAt out text → IsSilent report → AreKept files
        → ListAnswers command what file files out report 6

-- `self`: it is refused, or its run is whole and ends so
pub data SelfAnswers (n : ℕ) (files : FilesAround) (out report : Around) : ℕ → Option StateValue → Type 0 where
  refused : (refusal : Refusal) (status : ℕ)
      → GeneratedCause n refusal → AreRead files
      → Refuses (Some (Generated n)) refusal files out report status
      → SelfAnswers n files out report status None
  ran : (image : Program) (plan : Planned) (s : StateValue) (status : ℕ)
      → IsGenerated n image → IsGeneratedPlan plan
      → AreRead files → AreKept files
      → IsRunOf (task_for generated_options image plan) s
      → SummaryEnds n s out report status
      → SelfAnswers n files out report status (Some s)

-- the ways in which a call ends
pub data Answers (words : List (List ℕ)) (files : FilesAround) (out report : Around) : ℕ → Option StateValue → Type 0 where
  -- no memory to read the words
  starved : AreRead files → WasTold report out_of_memory_line → IsSilent out → AreKept files → Answers words files out report 7 None
  unasked : (status : ℕ) → command_of words ≡ None → AreRead files → Refuses None Usage files out report status
      → Answers words files out report status None
  runs : (options : RunOptions) (script journal : Option (List ℕ)) (file : List ℕ) (plugins : List (List ℕ))
      (status : ℕ) (state : Option StateValue)
      → command_of words ≡ Some (Run options script journal file plugins)
      → RunAnswers options script journal file plugins files out report status state
      → Answers words files out report status state
  replays : (options : RunOptions) (script : Option (List ℕ)) (file journal : List ℕ) (plugins : List (List ℕ))
      (status : ℕ) (state : Option StateValue)
      → command_of words ≡ Some (Replay options script file journal plugins)
      → ReplayAnswers options script file journal plugins files out report status state
      → Answers words files out report status state
  sums_up : (n status : ℕ) (state : Option StateValue) → command_of words ≡ Some (Generated n)
      → SelfAnswers n files out report status state → Answers words files out report status state
  lists_blocks : (file : List ℕ) (status : ℕ) → command_of words ≡ Some (Blocks file)
      → ListAnswers (Blocks file) listings.Blocks file files out report status
      → Answers words files out report status None
  lists_instructions : (file : List ℕ) (status : ℕ) → command_of words ≡ Some (Disas file)
      → ListAnswers (Disas file) Instructions file files out report status
      → Answers words files out report status None
