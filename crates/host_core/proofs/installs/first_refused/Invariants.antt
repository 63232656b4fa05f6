use Rattle.host_core.proofs.Installed.{IsAt}
use Rattle.host_core.proofs.installs.first_refused.Given as goal

abbrev pub invariant-loop-spec : goal.invariant-loop-spec
invariant-loop-spec l = IsAt l.fn.harts l.spec-items l.spec-index l.registry.table
