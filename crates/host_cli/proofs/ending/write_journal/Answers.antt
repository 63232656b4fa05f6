use Rattle.std.proofs.Common.{◌∙◌, refl, ap, Some}
use Rattle.host_cli.proofs.Printed.{told_as}
use Rattle.host_cli.specs.Ends.{written, unwritten, unmade}
use Rattle.host_cli.proofs.ending.write_journal.Goals as goal

pub returns-in_default-clause-ends : goal.returns-in_default-clause-ends
returns-in_default-clause-ends g c =
    rw c.refuse_for_memory.ensures.status
    (unmade c.args.name.now c.refuse_for_memory.ensures.told (record { same = refl; faultless = refl }))

pub returns-in_default-journal_bytes-clause-ends : goal.returns-in_default-journal_bytes-clause-ends
returns-in_default-journal_bytes-clause-ends g c =
    rw c.refuse_for_memory-in_default-journal_bytes.ensures.status
    (unmade c.args.name.now c.refuse_for_memory-in_default-journal_bytes.ensures.told (record { same = refl; faultless = refl }))

pub returns-in-Ok-write-clause-ends : goal.returns-in-Ok-write-clause-ends
returns-in-Ok-write-clause-ends g c =
    rw c.status.ensures.status
    (written c.args.name.now (record { same = refl; faultless = refl }) (record {
      holds = λ told. c.in-Ok-write.ensures.cases told ∙ ap Some (c.as_slice.ensures.value ∙ c.in-Ok-journal_bytes.ensures.bytes);
      others = c.in-Ok-write.ensures.others;
      faultless = c.in-Ok-write.ensures.faultless;
    }))

pub returns-clause-ends : goal.returns-clause-ends
returns-clause-ends g c =
    unwritten c.args.name.now
    (told_as _ c.as_slice-in-Err.result.now _ (c.as_slice-in-Err.ensures.value ∙ c.in-Ok.ensures.line) c.tell.ensures.told)
    (record { others = c.in-Err.ensures.others; faulted = c.in-Err.ensures.cases })
