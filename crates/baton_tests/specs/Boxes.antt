-- The boxes on a shelf, and what two harts leave there.
use Rattle.std.specs.Prelude.{◌≡◌, ℕ, List, ◌⊎◌, map, All, Contains}
use Rattle.baton_tests.specs.declared.entries.Entry.{Entry}
use Rattle.baton_tests.specs.declared.shelf.Parked.{Parked}
use Rattle.baton_tests.specs.Shelf.{heard_by, parked_in}

module _ {W : Type 0} (stands : W → List ℕ → Type 0) where
  -- the box has heard what its hart came to
  abbrev pub HasHeard : List Entry → Parked W → Type 0
  HasHeard log b = stands b.listener (heard_by b.hart log)

  -- the boxes are of the harts that put theirs on the shelf, and each has heard what its hart came to
  pub record KnowsBoxes (boxes : List (Parked W)) (log : List Entry) : Type 0 where
    pub harts : map (λ (b : Parked W). b.hart) boxes ≡ parked_in log
    pub heard : All (HasHeard log) boxes

  -- the box of this hart has heard these numbers
  pub record IsBoxOf (b : Parked W) (hart : ℕ) (numbers : List ℕ) : Type 0 where
    pub hart_is : b.hart ≡ hart
    pub heard : stands b.listener numbers

  -- each box is of one of the two harts, and has heard what that hart came to; and each hart has its box there
  pub record HasBoth (boxes : List (Parked W)) (ones twos : List ℕ) : Type 0 where
    pub each : All (λ b. IsBoxOf b 0 ones ⊎ IsBoxOf b 1 twos) boxes
    pub first : Contains (map (λ (b : Parked W). b.hart) boxes) 0
    pub second : Contains (map (λ (b : Parked W). b.hart) boxes) 1
