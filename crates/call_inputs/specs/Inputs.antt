-- What a call reads, and what it makes of it: the image of its file, the installs that its plug-in words spell, the lines of its
-- script and the journal of its journal file.
use Rattle.std.specs.Prelude.{◌≡◌, ℕ, ◌≤◌, Bool, List, [], length, map, Option, Some, None, Ok, IsTrue, MatchOption}
use Rattle.flat_model.specs.declared.plugins.SetSpec.{SetSpec}
use Rattle.flat_model.specs.declared.journals.Timed.{Timed}
use Rattle.flat_model.specs.declared.limits.TheConstants.{FILE_MOST, SCRIPT_MOST, JOURNAL_MOST}
use Rattle.flat_model.specs.Image.{Program}
use Rattle.flat_model.specs.Plan.{Planned}
use Rattle.elf_image.specs.Loads.{Loads}
use Rattle.journal_file.specs.Head.{FileState}
use Rattle.journal_file.specs.Reading.{file_at}
use Rattle.plug_registry.specs.Installs.{AreAllowed}
use Rattle.run_script.specs.ScriptGrammar.{SpellsScript}
use Rattle.run_script.specs.Words.{spelt}

-- what files show: whether they tell their contents, and what each name holds then
pub record Storage : Type 0 where
  pub told : Bool
  pub contents : List ℕ → Option (List ℕ)

-- the bytes are those of the file of this name, where contents are told, and within its limit
pub record WasRead (files : Storage) (name : List ℕ) (limit : ℕ) (bytes : List ℕ) : Type 0 where
  pub within : length bytes ≤ limit
  pub is_held : IsTrue files.told → files.contents name ≡ Some bytes

-- the file's bytes load as the image
pub record IsImageOf (files : Storage) (name : List ℕ) (image : Program) : Type 0 where
  pub bytes : List ℕ
  pub read : WasRead files name FILE_MOST bytes
  pub loads : Loads bytes image

-- each word spells one of the sets
abbrev pub AreSpelt : List (List ℕ) → List SetSpec → Type 0
AreSpelt words sets = map spelt words ≡ map (λ set. Ok set) sets

-- and each of them may be installed, after those before it, in a run of so many harts
pub record AreInstalls (harts : ℕ) (words : List (List ℕ)) (sets : List SetSpec) : Type 0 where
  pub spelt : AreSpelt words sets
  pub allowed : AreAllowed harts sets

-- the file's bytes spell the script
pub record IsScriptFile (files : Storage) (name : List ℕ) (lines : List Timed) : Type 0 where
  pub bytes : List ℕ
  pub read : WasRead files name SCRIPT_MOST bytes
  pub spells : SpellsScript lines bytes

-- where none is named, the script has no line
abbrev pub IsScript : Storage → Option (List ℕ) → List Timed → Type 0
IsScript files name lines = MatchOption name (lines ≡ []) (λ n. IsScriptFile files n lines)

-- the file's bytes are those of the journal and of what it says of its run
pub record IsJournalFile (files : Storage) (name : List ℕ) (file : FileState) : Type 0 where
  pub bytes : List ℕ
  pub read : WasRead files name JOURNAL_MOST bytes
  pub holds : file_at bytes ≡ Ok file

-- the plan of a run of so many harts: its installs are those of the plug-in words, and its lines those of the script
pub record IsPlanOf (files : Storage) (harts : ℕ) (words : List (List ℕ)) (script : Option (List ℕ)) (plan : Planned) : Type 0 where
  pub installs : AreInstalls harts words plan.installs
  pub lines : IsScript files script plan.script
