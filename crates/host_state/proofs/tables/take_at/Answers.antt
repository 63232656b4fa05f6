use Rattle.std.proofs.Common.{None}
use Rattle.host_state.proofs.Placing.{place_set}
use Rattle.host_state.proofs.tables.take_at.Goals as goal

pub returns-clause-left : goal.returns-clause-left
returns-clause-left g c =
    rw c.take.ensures.after (place_set c.args.rows.now c.args.row c.args.place None c.index-rows-row.result c.index-rows-row.is c.requires.row)
