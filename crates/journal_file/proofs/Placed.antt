-- A fault of a field is one of its entry.
use Rattle.std.proofs.Common.{ℕ, Result, ap}
use Rattle.flat_model.specs.declared.refusals.Refused.{Refused}
use Rattle.flat_model.specs.declared.refusals.Refused.TheVariants as refused
use Rattle.journal_file.specs.declared.refusal.Fault.{Fault}
use Rattle.journal_file.specs.Reading.{Fails, placed, refused_at}

pub fails_placed : {A : Type 0} (place : ℕ) (e : Refused Fault) (read : Result A Fault) → Fails e read → Fails (refused_at place e) (placed place read)
fails_placed place (refused.Because fault) read is = ap (placed place) is
fails_placed place refused.NoMemory read is = tt
