-- What files and sinks in memory show: their contents, their faults, and the calls that are to fail.
use Rattle.std.specs.Prelude.{ℕ, List, String, Vec}
use Rattle.std.specs.Global.{Global}
use Rattle.std.specs.BTreeMap.{BTreeMap, get_by_text}
use Rattle.std.specs.Prelude.{Option}
use Rattle.std.specs.Option.{option_map}
use Rattle.outer_io.specs.declared.calls.Calls.{Calls}
use Rattle.outer_io.specs.declared.memory.MemFiles.{MemFiles}

-- what a sink in memory shows: the pieces that were put, and the calls of `put`
pub record MemSinkValue : Type 0 where
  pub pieces : List (List ℕ)
  pub puts : Calls

-- what a name has in a map
abbrev pub held_in : BTreeMap (String Global) (Vec ℕ Global) → List ℕ → Option (List ℕ)
held_in files name = option_map (λ v. v.items) (get_by_text files name)

-- what a name has in memory
abbrev pub file_bytes : MemFiles → List ℕ → Option (List ℕ)
file_bytes f = held_in f.files

-- the calls of `read` on the files
abbrev pub reads_of : MemFiles → Calls
reads_of f = f.reads

-- the calls of `write` on the files
abbrev pub writes_of : MemFiles → Calls
writes_of f = f.writes
