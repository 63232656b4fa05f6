-- What a shelf knows of its boxes.
use Rattle.std.specs.Prelude.{◌≡◌, ◌≢◌, ℕ, List, [], ◌∷◌, ◌++◌, ◌==◌, if◌then◌else◌, All}
use Rattle.baton_tests.specs.declared.entries.Entry.{Entry}
use Rattle.baton_tests.specs.declared.entries.Entry.TheVariants.{Step, Parked}

-- the party of an entry is its hart
abbrev pub hart_of : Entry → ℕ
hart_of (Step hart number) = hart
hart_of (Parked hart) = hart

-- the numbers that a hart came to, oldest first, by a log with the latest entry first
abbrev pub heard_by : ℕ → List Entry → List ℕ
heard_by h [] = []
heard_by h (Step hart number ∷ past) = if hart == h then heard_by h past ++ number ∷ [] else heard_by h past
heard_by h (Parked hart ∷ past) = heard_by h past

-- the harts that put their boxes on the shelf, oldest first
abbrev pub parked_in : List Entry → List ℕ
parked_in [] = []
parked_in (Step hart number ∷ past) = parked_in past
parked_in (Parked hart ∷ past) = parked_in past ++ hart ∷ []

-- the hart has its box itself
abbrev pub HasBox : ℕ → List Entry → Type 0
HasBox h log = All (λ k. k ≢ h) (parked_in log)

-- what a contract sees of a shelf: its number, its log, latest first, and the harts that were told
pub record Contents : Type 0 where
  pub number : ℕ
  pub log : List Entry
  pub told : List ℕ

-- each hart that put its box on the shelf was told
abbrev pub IsTold : Contents → Type 0
IsTold s = s.told ≡ parked_in s.log
