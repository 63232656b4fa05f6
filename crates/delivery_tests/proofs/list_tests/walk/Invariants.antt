use Rattle.std.proofs.Common.{◌≡◌}
use Rattle.watcher_api.specs.Acting.{acts_of}
use Rattle.instr_lists.specs.Delivery.{acts_with}
use Rattle.delivery_tests.proofs.list_tests.walk.Given as goal

abbrev pub invariant-loop-i : goal.invariant-loop-i
invariant-loop-i g l = acts_of l.attached ≡ acts_with l.list.sets
