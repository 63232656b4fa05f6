-- Where no contents are told, nothing of what was read is.
use Rattle.std.proofs.Common.{ℕ, List, Option, None, false, Result, Ok, Err, MatchResult, IfErr, OnOk, is_some}
use Rattle.std.specs.Prelude.{IsOkAnd}
use Rattle.std.proofs.lemmas.Bool.{false≢true}
use Rattle.outer_io.specs.Files.{ReadsWhole}
use Rattle.outer_io.proofs.real.RealFilesFiles.read.Goals as goal

untold : {File E : Type 0} (opened : Result File E) (left : File → Option (List ℕ)) (limit : ℕ) (before now : List ℕ)
    → IsOkAnd opened (λ file. ReadsWhole (is_some (left file)) (left file) limit before now) → ReadsWhole false None limit before now
untold (Ok file) left limit before now reads = record { bytes = reads.bytes; gained = reads.gained; within = reads.within; is_held = λ told. absurd (false≢true told) }
untold (Err error) left limit before now reads = absurd reads

answers : {T E : Type 0} (P Q : Type 0) (cause : E → Type 0) (answer : Result T E) → (P → Q) → OnOk answer P → IfErr answer cause → MatchResult answer (λ _. Q) cause
answers P Q cause (Ok x) gives p q = gives p
answers P Q cause (Err e) gives p q = q

pub returns-clause-cases : goal.returns-clause-cases
returns-clause-cases g c =
    answers _ _ _ c.read_file-answer.result (untold c.open.result g.R.File.Read.remaining c.args.limit c.args.into.now.items c.read_file-answer.new.into.items)
    c.read_file-answer.ensures.ok (c.faults_after_read-self.ensures.refused c.args.limit)
