use Rattle.std.proofs.Common.{◌≡◌, ◌+◌, vec_len}
use Rattle.baton_gate.specs.Course.{opened}
use Rattle.baton_gate.specs.Passes.{known, IsPassOf}
use Rattle.baton_gate.proofs.NewPasses.{AreNext}
use Rattle.baton_gate.proofs.gate.Gate.new.Given as goal

abbrev pub invariant-loop-number : goal.invariant-loop-number
invariant-loop-number g l =
    let log = g.S.Kept.log l.fn.state in
    let frame = g.S.Kept.frame l.fn.state in
    record {
      first_of : IsPassOf l.gate l.first;
      first_is : known l.first ≡ record (opened l.fn.parties frame log) { made = l.number };
      first_number : l.first.party ≡ 0;
      first_takes : l.first.takes ≡ 0;
      count : l.number ≡ vec_len l.passes + 1;
      next : AreNext l.gate l.passes.items l.fn.parties log frame;
    }
