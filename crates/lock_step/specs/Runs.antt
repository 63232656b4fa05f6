-- Which logs are runs: each step is of a hart that runs. No other item matters, so neither plug-ins nor scripts do.
use Rattle.std.specs.Prelude.{◌≡◌, ℕ, ◌&&◌, not, nat_lt, Bool, true, List, [], ◌∷◌}
use Rattle.flat_model.specs.declared.journals.Item.{Item}
use Rattle.flat_model.specs.declared.journals.Item.TheVariants.{Step, Ordered, GaveBack, Left, Told, Got, Took}
use Rattle.flat_model.specs.declared.journals.Mode.{Mode}
use Rattle.flat_model.specs.Step.{is_over}
use Rattle.flat_model.specs.World.{Machine}
use Rattle.flat_model.specs.Worlds.{world, hart_of}

-- hart h is one of the run's harts and runs after the log: it is neither parked nor ended, and its group hasn't ended
abbrev pub can_step : Machine → Mode → List Item → ℕ → Bool
can_step m mode past h = nat_lt h m.harts && not (is_over (hart_of m mode past h) (world m mode past).shared)

-- before each step of the log its hart is one of the run's harts and runs
unfoldable pub IsRun : Machine → Mode → List Item → Type 0
IsRun m mode [] = Unit {0}
IsRun m mode (Step h ∷ past) = IsRun m mode past × (can_step m mode past h ≡ true)
IsRun m mode (Ordered origin order ∷ past) = IsRun m mode past
IsRun m mode (GaveBack h plugin ∷ past) = IsRun m mode past
IsRun m mode (Left h ∷ past) = IsRun m mode past
IsRun m mode (Told party plugin ∷ past) = IsRun m mode past
IsRun m mode (Got h plugin ∷ past) = IsRun m mode past
IsRun m mode (Took party plugin ∷ past) = IsRun m mode past
