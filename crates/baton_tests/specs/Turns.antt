-- Passes of a gate between holds.
use Rattle.std.specs.Prelude.{◌≡◌, ℕ, false, List, [], Contains}
use Rattle.baton_gate.specs.declared.passes.Pass.{Pass}
use Rattle.baton_gate.specs.declared.gate.Gate.{Gate}
use Rattle.baton_gate.specs.Passes.{IsPassOf, holds, seen, opening, parties}
use Rattle.baton_tests.specs.declared.entries.Entry.{Entry}
use Rattle.baton_tests.specs.Shelf.{heard_by, parked_in, HasBox}

-- it is a pass of this gate, and holds nothing
pub record IsFree {S I F : Type 0} (gate : Gate S I F) (p : Pass S I F) : Type 0 where
  pub of_gate : IsPassOf gate p
  pub free : holds p ≡ false

module _ {S F : Type 0} where
  -- the pass is of a gate for two, whose value began with an empty log
  pub record IsOfTwo (p : Pass S Entry F) : Type 0 where
    pub began : opening p ≡ []
    pub count_is : parties p ≡ 2

  -- the pass is of this hart, which has its box itself
  pub record IsAtWork (gate : Gate S Entry F) (p : Pass S Entry F) (hart : ℕ) : Type 0 where
    pub between : IsFree gate p
    pub party_is : p.party ≡ hart
    pub of_two : IsOfTwo p
    pub own : HasBox hart (seen p)

  -- the pass is of this hart, which has come to these numbers, and has put its box on the shelf
  pub record IsDone (gate : Gate S Entry F) (p : Pass S Entry F) (hart : ℕ) (numbers : List ℕ) : Type 0 where
    pub between : IsFree gate p
    pub party_is : p.party ≡ hart
    pub of_two : IsOfTwo p
    pub heard : heard_by hart (seen p) ≡ numbers
    pub parked : Contains (parked_in (seen p)) hart
