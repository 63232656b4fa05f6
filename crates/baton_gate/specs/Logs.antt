-- How a log goes on. A log is a list with its latest item first.
use Rattle.std.specs.Prelude.{◌≡◌, ◌≢◌, ℕ, ◌<◌, List, ◌++◌, All}

-- the log began with what was seen, and each later item is such a one
pub record GoesOn {I : Type 0} (Later : I → Type 0) (seen log : List I) : Type 0 where
  pub more : List I
  pub begins : log ≡ more ++ seen
  pub later : All Later more

module _ {I : Type 0} (party : I → ℕ) where
  -- the log began with what was seen, and has no later item of the party
  abbrev pub Ahead : List I → ℕ → List I → Type 0
  Ahead log p seen = GoesOn (λ i. party i ≢ p) seen log

  -- the log is what was seen and later items of the party alone
  abbrev pub Adds : List I → ℕ → List I → Type 0
  Adds log p seen = GoesOn (λ i. party i ≡ p) seen log

  -- the log began with the opening, and each later item has a party below n
  abbrev pub Within : List I → ℕ → List I → Type 0
  Within log n opening = GoesOn (λ i. party i < n) opening log
