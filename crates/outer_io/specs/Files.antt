-- What `read` and `write` of files answer, and why. `held` is what a name has: `Some` of its bytes, or
-- `None` where it is not there.
use Rattle.std.specs.Prelude.{◌≡◌, ◌≢◌, ℕ, ◌<◌, ◌≤◌, Bool, List, ◌++◌, length, IsTrue, MatchBool}
use Rattle.std.specs.Prelude.{Option, None, Some, IsSomeAnd}
use Rattle.outer_io.specs.Counts.{Faulted, IsFaultless}
use Rattle.outer_io.specs.declared.files.FileFault.{FileFault}
use Rattle.outer_io.specs.declared.files.FileFault.TheVariants.{Failed, Missing, TooLong, NoMemory}

-- a read that was carried out: `into` gained bytes within the limit and, where contents are told, they
-- are what the name has
pub record ReadsWhole (told : Bool) (held : Option (List ℕ)) (limit : ℕ) (before now : List ℕ) : Type 0 where
  pub bytes : List ℕ
  pub gained : now ≡ before ++ bytes
  pub within : length bytes ≤ limit
  pub is_held : IsTrue told → held ≡ Some bytes

-- the name has more bytes than the limit
abbrev pub IsLonger : Option (List ℕ) → ℕ → Type 0
IsLonger held limit = IsSomeAnd held (λ bytes. limit < length bytes)

-- why a read was refused, and whether that was a fault: where contents are not told, a file that is too long
-- is one. Want of memory needs no cause
abbrev pub HasReadCause : FileFault → Bool → Option (List ℕ) → ℕ → ℕ → ℕ → Type 0
HasReadCause Failed told held limit before now = Faulted before now
HasReadCause Missing told held limit before now = IsTrue told × (held ≡ None) × IsFaultless before now
HasReadCause TooLong told held limit before now = MatchBool told (IsLonger held limit × IsFaultless before now) (Faulted before now)
HasReadCause NoMemory told held limit before now = IsFaultless before now

-- names other than this one keep their contents, where these are told
abbrev pub OthersStay : Bool → (List ℕ → Option (List ℕ)) → (List ℕ → Option (List ℕ)) → List ℕ → Type 0
OthersStay told before now name = IsTrue told → (other : List ℕ) → other ≢ name → now other ≡ before other
