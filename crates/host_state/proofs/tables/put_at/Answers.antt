use Rattle.std.proofs.Common.{Some}
use Rattle.host_state.proofs.Placing.{place_set}
use Rattle.host_state.proofs.tables.put_at.Goals as goal

pub returns : goal.returns
returns g c = record { put = place_set c.args.rows.now c.args.row c.args.place (Some c.args.item) c.index-rows-row.result c.index-rows-row.is c.requires.row }
