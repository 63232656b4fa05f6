use Rattle.std.proofs.Common.{◌≡◌, take}
use Rattle.baton_gate.specs.Passes.{seen}
use Rattle.baton_tests.specs.Shelf.{heard_by}
use Rattle.baton_tests.specs.Turns.{IsAtWork}
use Rattle.baton_tests.proofs.turns.come_to_all.Given as goal

abbrev pub invariant-loop-number : goal.invariant-loop-number
invariant-loop-number g l = record {
  work : IsAtWork l.gate l.pass l.fn.pass.party;
  heard : heard_by l.fn.pass.party (seen l.pass) ≡ take l.number-index l.numbers;
  stands : g.W.Listener.stands l.listener (take l.number-index l.numbers);
}
