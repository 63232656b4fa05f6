-- What caches have been touched at.
use Rattle.std.specs.Prelude.{◌≡◌, ℕ, zero, suc, ◌<◌, List, [], ◌∷◌, ◌++◌, length, slice_get, take, Some}
use Rattle.flat_model.specs.declared.events.Event.{Event}
use Rattle.cache_model.specs.Hits.{Shape}
use Rattle.cache_model.specs.Touches.{touches, touches_of}

-- a cache, and the lines that were touched in it, in their order
pub record Touched : Type 0 where
  pub shape : Shape
  pub touches : List ℕ

abbrev pub with_touches : Touched → List ℕ → Touched
with_touches cache lines = record cache { touches = cache.touches ++ lines }

-- of these lines, only the first were touched
abbrev pub TouchesSome : Touched → Touched → List ℕ → Type 0
TouchesSome old new lines = (i : ℕ) × (new ≡ with_touches old (take i lines))

-- caches of one shape: that of each hart, from hart 0 on, and the one that all share, each with the lines that were
-- touched in it
pub record Studied : Type 0 where
  pub shape : Shape
  pub harts : List (List ℕ)
  pub shared : List ℕ

-- hart h touches these lines too
abbrev pub behind_hart : ℕ → List ℕ → List (List ℕ) → List (List ℕ)
behind_hart h lines [] = []
behind_hart zero lines (own ∷ harts) = (own ++ lines) ∷ harts
behind_hart (suc h) lines (own ∷ harts) = own ∷ behind_hart h lines harts

-- hart h touches these lines in its own cache, and those in the shared one
abbrev pub with_lines : Studied → ℕ → List ℕ → List ℕ → Studied
with_lines studied h own shared =
    record studied { harts = behind_hart h own studied.harts; shared = studied.shared ++ shared }

-- of the lines of an event that was refused, only the first in each cache were touched
abbrev pub TouchesFirst : Studied → Studied → ℕ → List ℕ → Type 0
TouchesFirst old new h lines = (i : ℕ) × (j : ℕ) × (new ≡ with_lines old h (take i lines) (take j lines))

-- what was touched is what these events touch
pub record IsOf (events : List Event) (studied : Studied) : Type 0 where
  pub harts : (h : ℕ) → h < length studied.harts → slice_get studied.harts h ≡ Some (touches_of studied.shape.line h events)
  pub shared : studied.shared ≡ touches studied.shape.line events
