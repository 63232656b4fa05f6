-- Counts of faults, which are what a caller knows of a file or stream that fails.
use Rattle.std.specs.Prelude.{◌≡◌, ℕ, ◌+◌, ◌-◌, ◌^◌, ◌<◌, ◌≤◌, min}

-- one more, of a u64 that stays at its greatest value
abbrev pub next : ℕ → ℕ
next n = min (n + 1) (2 ^ 64 - 1)

-- the call met one fault, and no more
abbrev pub Faulted : ℕ → ℕ → Type 0
Faulted before now = now ≡ next before

-- the call met no fault
abbrev pub IsFaultless : ℕ → ℕ → Type 0
IsFaultless before now = now ≡ before

-- a count after a call, which is a u64 and never falls
pub record IsCount (before now : ℕ) : Type 0 where
  pub never_falls : before ≤ now
  pub fits : now < 2 ^ 64
