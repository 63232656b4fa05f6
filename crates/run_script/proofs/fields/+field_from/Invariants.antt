-- Each call looks for a nearer field.
use Rattle.run_script.proofs.fields.+field_from.Given as goal

abbrev pub decreases-field_from : goal.decreases-field_from
decreases-field_from l = l.k
