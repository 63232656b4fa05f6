-- What a sink gains in a call.
use Rattle.std.specs.Prelude.{◌≡◌, ◌⊎◌, ℕ, List, [], ◌∷◌, Option}
use Rattle.flat_model.specs.declared.limits.TheConstants.{PIECE_BYTES}
use Rattle.outer_io.specs.Counts.{IsFaultless}
use Rattle.outer_io.specs.Pieces.{cut, one_piece}
use Rattle.outer_io.specs.Sinks.{Gained, StoppedAtFault}

-- a sink around a call: its pieces, where told, and its faults, before and after
pub record Around : Type 0 where
  pub before : Option (List (List ℕ))
  pub now : Option (List (List ℕ))
  pub faults_before : ℕ
  pub faults_now : ℕ

-- the sink as it was and as it is, by its pieces and its faults
abbrev pub around : {S : Type 0} → (S → Option (List (List ℕ))) → (S → ℕ) → S → S → Around
around pieces faults old new = record {
  before = pieces old;
  now = pieces new;
  faults_before = faults old;
  faults_now = faults new;
}

-- the sink gained the text in pieces of 4,096 bytes, of which the last may be shorter and none is empty
pub record Says (sink : Around) (text : List ℕ) : Type 0 where
  pub gained : Gained sink.before sink.now (cut PIECE_BYTES text)
  pub faultless : IsFaultless sink.faults_before sink.faults_now

-- a put failed, and the sink gained a prefix of the text, in such pieces
abbrev pub StopsAt : Around → List ℕ → Type 0
StopsAt sink text = StoppedAtFault (cut PIECE_BYTES) sink.before sink.now text sink.faults_before sink.faults_now

-- the sink gained a line in one piece
pub record SaysLine (sink : Around) (line : List ℕ) : Type 0 where
  pub gained : Gained sink.before sink.now (line ∷ [])
  pub faultless : IsFaultless sink.faults_before sink.faults_now

-- the put of a line failed, and the sink gained a prefix of it
abbrev pub StopsAtLine : Around → List ℕ → Type 0
StopsAtLine sink line = StoppedAtFault one_piece sink.before sink.now line sink.faults_before sink.faults_now

-- the sink gained the line, or its put failed and it gained a prefix
abbrev pub WasTold : Around → List ℕ → Type 0
WasTold sink line = SaysLine sink line ⊎ StopsAtLine sink line

-- the sink gained nothing
pub record IsSilent (sink : Around) : Type 0 where
  pub same : sink.now ≡ sink.before
  pub faultless : IsFaultless sink.faults_before sink.faults_now

-- the sink gained one thing, and then another
pub record Then (First Second : Around → Type 0) (sink : Around) : Type 0 where
  pub between : Option (List (List ℕ))
  pub faults_between : ℕ
  pub first : First (record sink { now = between; faults_now = faults_between })
  pub second : Second (record sink { before = between; faults_before = faults_between })
