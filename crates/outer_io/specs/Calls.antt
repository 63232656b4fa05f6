-- Numbered calls, of which some are to fail.
use Rattle.std.specs.Prelude.{ℕ, ◌==◌, Bool, List}
use Rattle.std.specs.List.{list_any}

-- the call with this number, from 1, is one of those that are to fail
abbrev pub is_listed : List ℕ → ℕ → Bool
is_listed numbers n = list_any (λ m. m == n) numbers
