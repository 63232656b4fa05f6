use Rattle.std.proofs.Common.{refl}
use Rattle.host_cli.specs.Ends.{unnamed}
use Rattle.host_cli.proofs.ending.end_journal.Goals as goal

pub returns-in-None-clause-ends : goal.returns-in-None-clause-ends
returns-in-None-clause-ends g c =
    rw (c.in-None.is, c.status.ensures.status) (unnamed (record { same = refl; faultless = refl }) (record { same = refl; faultless = refl }))
