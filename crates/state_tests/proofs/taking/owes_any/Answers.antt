use Rattle.std.proofs.Common.{arith}
use Rattle.state_tests.proofs.Owing.{owes_none}
use Rattle.state_tests.proofs.taking.owes_any.Goals as goal

pub returns : goal.returns
returns c =
    let all = owes_none c.args.registry.now.table c.args.no c.loop-place.place (omega arith) c.loop-place.invariant in
    record { owes = λ _. all }
