use Rattle.std.proofs.Common.{◌≡◌, Some}
use Rattle.std.specs.Prelude.{MatchOption}
use Rattle.baton_gate.specs.Passes.{IsPassOf, known, seen, carries}
use Rattle.block_finder.specs.Caches.{MayServe}
use Rattle.run_order.specs.InOrder.{Task}
use Rattle.hart_runner.specs.Turns.{HasLists, Sits}
use Rattle.hart_runner.proofs.runners.Runner.run.Given as goal

abbrev pub invariant-loop : goal.invariant-loop
invariant-loop g l = record {
  gate : IsPassOf l.gate l.self.pass;
  same : known l.self.pass ≡ record (known l.fn.self.pass) { seen = seen l.self.pass };
  party : l.self.pass.party ≡ l.fn.self.pass.party;
  order : (t : Task) → carries l.self.pass ≡ Some t → MatchOption l.self.seat ⊥ (Sits t l.self.pass.party (seen l.self.pass));
  blocks : (t : Task) → carries l.self.pass ≡ Some t → MayServe l.self.blocks t.machine.image;
  lists : MatchOption l.self.seat ⊥ (HasLists l.self.lists);
}
