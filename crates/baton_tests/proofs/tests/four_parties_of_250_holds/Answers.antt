use Rattle.baton_tests.proofs.FreePasses.{all_free}
use Rattle.baton_tests.proofs.tests.four_parties_of_250_holds.Goals as goal

pub mark_by_all-requires-after_bounds : goal.mark_by_all-requires-after_bounds
mark_by_all-requires-after_bounds g c κs = all_free _ _ _ _ _ c.in_ok-gate.ensures.passes
