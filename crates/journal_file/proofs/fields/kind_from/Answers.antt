use Rattle.std.proofs.Common.{ap, ◌∙◌}
use Rattle.flat_model.specs.declared.plugins.Ask.TheVariants.{Stay, Reset, Uninstall}
use Rattle.journal_file.specs.Reading.{kind_of}
use Rattle.journal_file.proofs.MadeKind.{kind_of-made}
use Rattle.journal_file.proofs.fields.kind_from.Goals as goal

pub returns-in-0-eq0 : goal.returns-in-0-eq0
returns-in-0-eq0 c = ap (kind_of c.args.name c.args.quota) c.in-0-eq0.is-1 ∙ kind_of-made c.args.name c.args.quota Stay _

pub returns-in-1-to-18446744073709551615-eq1 : goal.returns-in-1-to-18446744073709551615-eq1
returns-in-1-to-18446744073709551615-eq1 c = ap (kind_of c.args.name c.args.quota) c.in-1-to-18446744073709551615-eq1.is-1 ∙ kind_of-made c.args.name c.args.quota Reset _

pub returns-in-1-to-18446744073709551615-eq2 : goal.returns-in-1-to-18446744073709551615-eq2
returns-in-1-to-18446744073709551615-eq2 c = ap (kind_of c.args.name c.args.quota) c.in-1-to-18446744073709551615-eq2.is-1 ∙ kind_of-made c.args.name c.args.quota Uninstall _
