use Rattle.std.proofs.Common.{rules}
use Rattle.report_text.proofs.Summing.{keys-insert_entry}
use Rattle.report_text.proofs.merging.add.Goals as goal

pub returns-clause-keys : goal.returns-clause-keys
returns-clause-keys c = search (rules, keys-insert_entry)
