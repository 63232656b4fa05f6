use Rattle.std.proofs.Common.{arith}
use Rattle.hart_runner.proofs.GivingBacks.{one_more, all_returned, none_more, written_so_far}
use Rattle.hart_runner.proofs.entering.give_back_all.Goals as goal

pub loop-place-preserved : goal.loop-place-preserved
loop-place-preserved g c =
    let was = c.loop-place.invariant in
    let one = c.give_back-gave.ensures in
    record {
      so_far = one_more c.args.state.now c.loop-place.state c.give_back-gave.new.state c.args.no c.loop-place.place _ _ _ _
          was.so_far one.may one.returned one.owes one.room;
      wrote = written_so_far c.loop-place.some c.give_back-gave.result c.args.state.now c.loop-place.state c.give_back-gave.new.state
          c.args.no
          was.so_far.returned one.returned was.wrote one.wrote;
      nothing = none_more _ _ _ _ _ _ _ _ _ _ _ was.nothing one.nothing;
    }

pub returns-clause-owes_none : goal.returns-clause-owes_none
returns-clause-owes_none g c =
    all_returned c.args.state.now c.loop-place.state c.args.no c.loop-place.place _ _ c.loop-place.invariant.so_far
    (omega (arith, c.plugin_count-count.ensures.count))
