use Rattle.std.proofs.Common.{◌≡◌, ◌<◌, ℕ, true}
use Rattle.host_state.specs.Idling.{is_out}
use Rattle.host_state.proofs.idling.are_out.Given as goal

abbrev pub invariant-loop-no : goal.invariant-loop-no
invariant-loop-no l = (h : ℕ) → h < l.no → is_out l.starts l.kept h ≡ true
