use Rattle.watcher_api.proofs.KeyLaws.{keys_ascend, keys_occur, rows_count}
use Rattle.watcher_api.proofs.laws.rows_by_key.Goals as goal

pub returns-clause-ascend : goal.returns-clause-ascend
returns-clause-ascend c = keys_ascend

pub returns-clause-occur : goal.returns-clause-occur
returns-clause-occur c = keys_occur

pub returns-clause-count : goal.returns-clause-count
returns-clause-count c = rows_count
