-- Harts that can start no other.
use Rattle.std.specs.Prelude.{ℕ, ◌||◌, not, Bool, List, Option, None, is_some, slice_index_or}
use Rattle.flat_model.specs.World.{HartState, Start}

-- a hart has left, or it has no start
abbrev pub is_out : List (Option Start) → List (Option HartState) → ℕ → Bool
is_out starts kept h = is_some (slice_index_or kept h None) || not (is_some (slice_index_or starts h None))
