-- Why a call is refused, where its words are in the grammar. Each step of the work comes after the earlier ones have passed: the file
-- is read and loaded, then the plug-in words are read and their sets installed, then the script is read, and then the journal.
use Rattle.std.specs.Prelude.{◌≡◌, ◌≢◌, ◌⊎◌, ℕ, ◌+◌, ◌-◌, ◌<◌, ◌≤◌, Bool, List, [], length, Option, Some, None, Result, Ok, Err}
use Rattle.std.specs.Prelude.{take, IsTrue, MatchBool, MatchOption, slice_index_or}
use Rattle.flat_model.specs.declared.orders.OrderRefusal.{OrderRefusal}
use Rattle.flat_model.specs.declared.orders.OrderRefusal.TheVariants as orders
use Rattle.flat_model.specs.declared.plugins.SetSpec.{SetSpec}
use Rattle.flat_model.specs.declared.journals.Mode.{Mode}
use Rattle.flat_model.specs.declared.journals.Timed.{Timed}
use Rattle.flat_model.specs.declared.limits.TheConstants.{FILE_MOST, SCRIPT_MOST, JOURNAL_MOST}
use Rattle.flat_model.specs.Image.{Program}
use Rattle.flat_model.specs.Plan.{Planned}
use Rattle.outer_io.specs.Counts.{Faulted, IsFaultless}
use Rattle.outer_io.specs.Files.{IsLonger}
use Rattle.elf_image.specs.declared.refusals.ImageRefusal.{ImageRefusal}
use Rattle.elf_image.specs.Loads.{Refuses}
use Rattle.journal_file.specs.declared.refusal.FileRefusal.{FileRefusal}
use Rattle.journal_file.specs.Head.{Head, FileState}
use Rattle.journal_file.specs.Reading.{file_at}
use Rattle.plug_registry.specs.Installs.{first_refused}
use Rattle.run_script.specs.declared.refusals.ScriptRefusal.{ScriptRefusal}
use Rattle.run_script.specs.declared.refusals.SpecRefusal.{SpecRefusal}
use Rattle.run_script.specs.Scripts.{script}
use Rattle.run_script.specs.Words.{spelt}
use Rattle.call_inputs.specs.declared.refusals.Input.{Input}
use Rattle.call_inputs.specs.declared.refusals.Input.TheVariants as inputs
use Rattle.call_inputs.specs.declared.refusals.InstallRefusal.{InstallRefusal}
use Rattle.call_inputs.specs.declared.refusals.InstallRefusal.TheVariants.{Full, FewBoxes}
use Rattle.call_inputs.specs.declared.refusals.Refusal.{Refusal}
use Rattle.call_inputs.specs.declared.refusals.Refusal.TheVariants.{CannotRead, TooLong, Image, Word, Install, Script, Journal, OtherRun}
use Rattle.call_inputs.specs.declared.refusals.Refusal.TheVariants.{OutOfMemory}
use Rattle.call_inputs.specs.Inputs.{Storage, WasRead, IsImageOf, AreSpelt, AreInstalls, IsScript, IsJournalFile, IsPlanOf}

abbrev pub limit_of : Input → ℕ
limit_of inputs.File = FILE_MOST
limit_of inputs.Script = SCRIPT_MOST
limit_of inputs.Journal = JOURNAL_MOST

-- the read of the file failed, or there is no such file: the faults of reads before and now
abbrev pub CannotBeRead : Storage → List ℕ → ℕ → ℕ → Type 0
CannotBeRead files name before now =
    Faulted before now ⊎ (IsTrue files.told × (files.contents name ≡ None) × IsFaultless before now)

-- the file has more bytes than its limit
abbrev pub IsTooLong : Storage → List ℕ → ℕ → ℕ → ℕ → Type 0
IsTooLong files name limit before now =
    MatchBool files.told (IsLonger (files.contents name) limit × IsFaultless before now) (Faulted before now)

-- why an input wasn't read
abbrev pub ReadCause : Storage → List ℕ → Input → ℕ → ℕ → Refusal → Type 0
ReadCause files name input before now (CannotRead which) = (which ≡ input) × CannotBeRead files name before now
ReadCause files name input before now (TooLong which) = (which ≡ input) × IsTooLong files name (limit_of input) before now
ReadCause files name input before now OutOfMemory = IsFaultless before now
ReadCause files name input before now _ = ⊥

-- the file's bytes break this rule of the loader first
pub record BreaksImage (files : Storage) (name : List ℕ) (refusal : ImageRefusal) : Type 0 where
  pub bytes : List ℕ
  pub read : WasRead files name FILE_MOST bytes
  pub broken : Refuses bytes refusal

-- the word with this number, from 1, is the first that spells no set, and breaks this rule first
pub record BreaksWord (words : List (List ℕ)) (number : ℕ) (refusal : SpecRefusal) : Type 0 where
  pub first : 1 ≤ number
  pub within : number ≤ length words
  pub sets : List SetSpec
  pub before : AreSpelt (take (number - 1) words) sets
  pub broken : spelt (slice_index_or words (number - 1) []) ≡ Err refusal

abbrev pub IsAs : InstallRefusal → OrderRefusal → Type 0
IsAs Full (orders.Full count) = Unit {0}
IsAs Full _ = ⊥
IsAs (FewBoxes need left) why = why ≡ orders.FewBoxes need left

-- the rules that a set of the grammar can break where it is installed
abbrev pub IsOfInstall : OrderRefusal → Type 0
IsOfInstall (orders.Full count) = Unit {0}
IsOfInstall (orders.FewBoxes need left) = Unit {0}
IsOfInstall _ = ⊥

-- all words spell sets, of which that of this number, from 1, is the first that may not be installed, and why
pub record BreaksInstall (harts : ℕ) (words : List (List ℕ)) (number : ℕ) (refusal : InstallRefusal) : Type 0 where
  pub sets : List SetSpec
  pub spelt : AreSpelt words sets
  pub why : OrderRefusal
  pub is_so : IsAs refusal why
  pub first : 1 ≤ number
  pub refused : first_refused harts sets ≡ Some (number - 1, why)

-- the script's bytes break this rule first
pub record BreaksScript (files : Storage) (name : List ℕ) (refusal : ScriptRefusal) : Type 0 where
  pub bytes : List ℕ
  pub read : WasRead files name SCRIPT_MOST bytes
  pub broken : script bytes ≡ Err refusal

-- the journal file's bytes break this rule first
pub record BreaksJournal (files : Storage) (name : List ℕ) (refusal : FileRefusal) : Type 0 where
  pub bytes : List ℕ
  pub read : WasRead files name JOURNAL_MOST bytes
  pub broken : file_at bytes ≡ Err refusal

-- the file holds a journal that tells of another run: other harts, another mode or another limit
pub record IsOfOtherRun (files : Storage) (name : List ℕ) (head made : Head) : Type 0 where
  pub file : FileState
  pub holds : IsJournalFile files name file
  pub told : file.head ≡ Some made
  pub differs : made ≢ head

-- why there is no image, and what became of the count of the reads' faults. Want of memory needs no cause
abbrev pub ImageCause : Storage → List ℕ → ℕ → ℕ → Refusal → Type 0
ImageCause files name before now (CannotRead inputs.File) = CannotBeRead files name before now
ImageCause files name before now (TooLong inputs.File) = IsTooLong files name FILE_MOST before now
ImageCause files name before now (Image refusal) = BreaksImage files name refusal × IsFaultless before now
ImageCause files name before now OutOfMemory = IsFaultless before now
ImageCause files name before now _ = ⊥

-- why the word of a number spells no set
abbrev pub WordCause : ℕ → List ℕ → Refusal → Type 0
WordCause number word (Word at refusal) = (at ≡ number) × (spelt word ≡ Err refusal)
WordCause number word OutOfMemory = Unit {0}
WordCause number word _ = ⊥

-- why the words don't spell sets
abbrev pub SpellingCause : List (List ℕ) → Refusal → Type 0
SpellingCause words (Word number refusal) = BreaksWord words number refusal
SpellingCause words OutOfMemory = Unit {0}
SpellingCause words _ = ⊥

-- why the words give no installs
abbrev pub WordsCause : ℕ → List (List ℕ) → Refusal → Type 0
WordsCause harts words (Word number refusal) = BreaksWord words number refusal
WordsCause harts words (Install number refusal) = BreaksInstall harts words number refusal
WordsCause harts words OutOfMemory = Unit {0}
WordsCause harts words _ = ⊥

-- why the file of this name gives no script
abbrev pub ScriptCause : Storage → List ℕ → ℕ → ℕ → Refusal → Type 0
ScriptCause files name before now (CannotRead inputs.Script) = CannotBeRead files name before now
ScriptCause files name before now (TooLong inputs.Script) = IsTooLong files name SCRIPT_MOST before now
ScriptCause files name before now (Script refusal) = BreaksScript files name refusal × IsFaultless before now
ScriptCause files name before now OutOfMemory = IsFaultless before now
ScriptCause files name before now _ = ⊥

-- and why there is no script, where one is named
abbrev pub OfScript : Storage → Option (List ℕ) → ℕ → ℕ → Refusal → Type 0
OfScript files name before now refusal = MatchOption name ⊥ (λ n. ScriptCause files n before now refusal)

-- why the file of this name gives no journal of a run with this head
abbrev pub JournalCause : Storage → List ℕ → Head → ℕ → ℕ → Refusal → Type 0
JournalCause files name head before now (CannotRead inputs.Journal) = CannotBeRead files name before now
JournalCause files name head before now (TooLong inputs.Journal) = IsTooLong files name JOURNAL_MOST before now
JournalCause files name head before now (Journal refusal) = BreaksJournal files name refusal × IsFaultless before now
JournalCause files name head before now (OtherRun made) = IsOfOtherRun files name head made × IsFaultless before now
JournalCause files name head before now OutOfMemory = IsFaultless before now
JournalCause files name head before now _ = ⊥

-- what passed before
abbrev pub HasImage : Storage → List ℕ → Type 0
HasImage files name = (image : Program) × IsImageOf files name image

abbrev pub HasInstalls : ℕ → List (List ℕ) → Type 0
HasInstalls harts words = (sets : List SetSpec) × AreInstalls harts words sets

abbrev pub HasScript : Storage → Option (List ℕ) → Type 0
HasScript files name = (lines : List Timed) × IsScript files name lines

-- why a run of so many harts can't begin: its file, its plug-in words, and the name of its script where it has one
pub data RunCause (files : Storage) (harts : ℕ) (file : List ℕ) (words : List (List ℕ)) (script : Option (List ℕ)) (before now : ℕ)
    (refusal : Refusal) : Type 0 where
  by_file : ImageCause files file before now refusal → RunCause files harts file words script before now refusal
  by_words : HasImage files file → WordsCause harts words refusal → IsFaultless before now
      → RunCause files harts file words script before now refusal
  by_script : HasImage files file → HasInstalls harts words → OfScript files script before now refusal
      → RunCause files harts file words script before now refusal

-- and why a replay can't
pub data ReplayCause (files : Storage) (head : Head) (file journal : List ℕ) (words : List (List ℕ)) (script : Option (List ℕ))
    (before now : ℕ) (refusal : Refusal) : Type 0 where
  as_run : RunCause files head.harts file words script before now refusal
      → ReplayCause files head file journal words script before now refusal
  by_journal : HasImage files file → HasInstalls head.harts words → HasScript files script
      → JournalCause files journal head before now refusal → ReplayCause files head file journal words script before now refusal
