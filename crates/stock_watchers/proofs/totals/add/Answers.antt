use Rattle.std.proofs.Common.{rules, sym, arith}
use Rattle.std.proofs.lemmas.Grind.{common_steps}
use Rattle.stock_watchers.proofs.Inserting.{keys-insert_entry, insert_present}
use Rattle.stock_watchers.proofs.totals.add.Goals as goal

pub returns-in-Some-clause-keys : goal.returns-in-Some-clause-keys
returns-in-Some-clause-keys c =
    let present = insert_present c.args.key c.in-Some.total.now c.args.totals.now.entries c.get_mut.ensures.ordered
    (sym c.in-Some.ensures.value) in
    grind (arith, common_steps, present)

pub returns-clause-keys : goal.returns-clause-keys
returns-clause-keys c = search (rules, keys-insert_entry)
