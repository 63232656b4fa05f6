-- The files around a call.
use Rattle.std.specs.Prelude.{◌≡◌, ◌≢◌, ℕ, Bool, List, Option, Some, IsTrue}
use Rattle.outer_io.specs.Counts.{Faulted, IsFaultless}
use Rattle.call_inputs.specs.Inputs.{Storage}

-- whether contents are told; what each name holds, where told, before and after; and the faults of reads and writes before and after
pub record FilesAround : Type 0 where
  pub told : Bool
  pub before : List ℕ → Option (List ℕ)
  pub now : List ℕ → Option (List ℕ)
  pub reads_before : ℕ
  pub reads_now : ℕ
  pub writes_before : ℕ
  pub writes_now : ℕ

-- the files as they were and as they are
abbrev pub files_around : {F : Type 0} → (F → Bool) → (F → List ℕ → Option (List ℕ)) → (F → ℕ) → (F → ℕ) → F → F → FilesAround
files_around told contents reads writes old new = record {
  told = told old;
  before = contents old;
  now = contents new;
  reads_before = reads old;
  reads_now = reads new;
  writes_before = writes old;
  writes_now = writes new;
}

-- what they held when the call began
abbrev pub storage : FilesAround → Storage
storage files = record { told = files.told; contents = files.before }

-- no read met a fault
abbrev pub AreRead : FilesAround → Type 0
AreRead files = IsFaultless files.reads_before files.reads_now

-- no file was changed, and no write met a fault
pub record AreKept (files : FilesAround) : Type 0 where
  pub same : files.now ≡ files.before
  pub faultless : IsFaultless files.writes_before files.writes_now

-- every name but this one keeps its contents, where these are told
abbrev pub KeepsOthers : List ℕ → FilesAround → Type 0
KeepsOthers name files = IsTrue files.told → (other : List ℕ) → other ≢ name → files.now other ≡ files.before other

-- the name has these bytes, where contents are told; the others are kept, and no write met a fault
pub record HasWritten (name bytes : List ℕ) (files : FilesAround) : Type 0 where
  pub holds : IsTrue files.told → files.now name ≡ Some bytes
  pub others : KeepsOthers name files
  pub faultless : IsFaultless files.writes_before files.writes_now

-- the write of this name failed
pub record HasNotWritten (name : List ℕ) (files : FilesAround) : Type 0 where
  pub others : KeepsOthers name files
  pub faulted : Faulted files.writes_before files.writes_now
