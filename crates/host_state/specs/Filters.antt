-- The filters of a hart's attached sets, each with its plug-in's number.
use Rattle.std.specs.Prelude.{◌<◌, ◌≤◌, ◌≢◌, ℕ, List, All, AllPairs}
use Rattle.flat_model.specs.declared.plugins.SetSpec.{SetSpec}

-- none is of this plug-in
abbrev pub HasNoSpec : ℕ → List (ℕ × SetSpec) → Type 0
HasNoSpec plugin specs = All (λ s. s.0 ≢ plugin) specs

-- each number is above those before
abbrev pub AreSpecsInOrder : List (ℕ × SetSpec) → Type 0
AreSpecsInOrder specs = AllPairs (λ a b. a.0 < b.0) specs

-- each number is one that a plug-in can have
abbrev pub AreSpecsNumbered : List (ℕ × SetSpec) → Type 0
AreSpecsNumbered specs = All (λ s. (1 ≤ s.0) × (s.0 ≤ 8)) specs
