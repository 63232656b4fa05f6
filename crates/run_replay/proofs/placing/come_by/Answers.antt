use Rattle.std.proofs.Common.{rules, of_calls, nat_le}
use Rattle.std.proofs.lemmas.Fn.{always_returns_same}
use Rattle.std.proofs.lemmas.List.Sorted.{IsPartitionedBy-leb}
use Rattle.host_state.proofs.ScriptLines.{partition_come}
use Rattle.run_replay.proofs.placing.come_by.Goals as goal

pub returns : goal.returns
returns c =
    let script = c.args.script.now in
    let point = c.partition_point.ensures.partitioned (λ t. nat_le t.when c.args.moment)
    (always_returns_same _ _ _ (λ a r f k. search (rules, of_calls)))
    (IsPartitionedBy-leb (λ t. t.when) script c.args.moment c.requires.rising) in
    record { come = partition_come script c.args.moment c.partition_point.result c.partition_point.ensures.bound point }
