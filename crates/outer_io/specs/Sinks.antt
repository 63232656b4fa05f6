-- What a sink holds after a `put`: `Some` of the pieces that were put, or `None` where a sink does not tell them.
use Rattle.std.specs.Prelude.{◌≡◌, ℕ, List, ◌++◌, take}
use Rattle.std.specs.Prelude.{Option}
use Rattle.std.specs.List.{concat}
use Rattle.std.specs.Option.{option_map}
use Rattle.outer_io.specs.Counts.{Faulted}

-- the bytes that a sink holds, where told: its pieces one after the other
abbrev pub bytes_of : Option (List (List ℕ)) → Option (List ℕ)
bytes_of held = option_map concat held

-- the pieces, where told, gained these at their end
abbrev pub Gained : Option (List (List ℕ)) → Option (List (List ℕ)) → List (List ℕ) → Type 0
Gained before now pieces = now ≡ option_map (λ held. held ++ pieces) before

-- the call met one fault, and the pieces, where told, gained those of a prefix of the text: `pieces_of` says
-- in which pieces a text is put
pub record StoppedAtFault (pieces_of : List ℕ → List (List ℕ)) (before now : Option (List (List ℕ)))
    (text : List ℕ) (faults_before faults_now : ℕ) : Type 0 where
  pub taken : ℕ
  pub gained : Gained before now (pieces_of (take taken text))
  pub faulted : Faulted faults_before faults_now
