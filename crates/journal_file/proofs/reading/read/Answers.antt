use Rattle.std.proofs.Common.{ap, subst, ◌∙◌, arith}
use Rattle.journal_file.specs.File.{held}
use Rattle.journal_file.specs.Reading.{Gives, file_at}
use Rattle.journal_file.proofs.Recordings.{is_found, is_writable, file_again}
use Rattle.journal_file.proofs.reading.read.Goals as goal

pub returns-clause-found : goal.returns-clause-found
returns-clause-found c = is_found held c.args.bytes.now c.read_all.result (λ i. omega (arith, c.type_inv.bytes i)) c.read_all.ensures

pub returns-clause-only : goal.returns-clause-only
returns-clause-only c = λ file fits e. subst (λ f. Gives held c.read_all.result f) (ap file_at e ∙ file_again file fits) c.read_all.ensures

pub returns-clause-writable : goal.returns-clause-writable
returns-clause-writable c = is_writable held c.args.bytes.now c.read_all.result (returns-clause-found c)
