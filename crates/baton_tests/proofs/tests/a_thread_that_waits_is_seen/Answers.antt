use Rattle.baton_tests.proofs.FreePasses.{all_free}
use Rattle.baton_tests.proofs.tests.a_thread_that_waits_is_seen.Goals as goal

pub keep_and_wait-requires-after_bounds : goal.keep_and_wait-requires-after_bounds
keep_and_wait-requires-after_bounds g c κs = all_free _ _ _ _ _ c.in_ok-gate.ensures.passes
