-- The sets that wait for harts, with their filters: a hart that takes a set takes these too.
use Rattle.std.specs.Prelude.{◌≡◌, ◌≤◌, ◌<◌, ◌-◌, ℕ, true, nat_lt, if◌then◌else◌, List, [], ◌∷◌, ◌++◌, length, map, filter, replicate}
use Rattle.std.specs.Prelude.{Option, Some, None}
use Rattle.flat_model.specs.declared.plugins.SetSpec.{SetSpec}
use Rattle.flat_model.specs.declared.journals.Item.{Item}
use Rattle.flat_model.specs.declared.journals.Item.TheVariants.{Ordered, Left, Got}
use Rattle.flat_model.specs.declared.journals.Order.TheVariants.{Install}
use Rattle.flat_model.specs.declared.journals.Origin.{Origin}
use Rattle.flat_model.specs.Log.{steps}
use Rattle.run_rules.specs.Guest.{Run, plugins}
use Rattle.run_rules.specs.Heard.{set_at, last_set}
use Rattle.run_rules.specs.Legal.{Legal, numbers}
use Rattle.run_rules.specs.Places.{IsStateLog, place_of, is_waiting, may_get}
use Rattle.run_order.specs.Sets.{harts_of}
use Rattle.run_order.specs.Laws.{with_place}
use Rattle.kept_order.specs.Hearing.{specs_for}

-- the set that a plug-in registered last, with its filters, where it waits for hart h
abbrev pub arrival_at : Run → List Item → ℕ → ℕ → Option SetSpec
arrival_at run past plugin h =
    if is_waiting (place_of run plugin h past) then Some (set_at run plugin (last_set (plugins run past) plugin) past) else None

-- by plug-in and hart
abbrev pub arrivals : Run → List Item → List (List (Option SetSpec))
arrivals run past = map (λ plugin. map (arrival_at run past plugin) (harts_of run)) (numbers (plugins run past))

-- sets with one more, in the order of their numbers
abbrev pub with_spec : ℕ × SetSpec → List (ℕ × SetSpec) → List (ℕ × SetSpec)
with_spec s specs = filter (λ other. nat_lt other.0 s.0) specs ++ s ∷ filter (λ other. nat_lt s.0 other.0) specs

-- steps, and a hart that leaves, change none
abbrev pub ArrivalsStay : Type 0
ArrivalsStay = (run : Run) (h n : ℕ) (past : List Item)
    → (arrivals run (steps h n past) ≡ arrivals run past) × (arrivals run (Left h ∷ past) ≡ arrivals run past)

-- an install adds one for each hart
abbrev pub InstallsArrive : Type 0
InstallsArrive = (run : Run) (origin : Origin) (spec : SetSpec) (past : List Item)
    → Legal run (Ordered origin (Install spec) ∷ past) → IsStateLog run past
    → arrivals run (Ordered origin (Install spec) ∷ past) ≡ arrivals run past ++ replicate run.harts (Some spec) ∷ []

-- a hart that takes a set takes it from there
pub record HasArrived (run : Run) (h plugin : ℕ) (past : List Item) : Type 0 where
  pub taken : arrival_at run past plugin h ≡ Some (set_at run plugin (last_set (plugins run past) plugin) past)
  pub left : arrivals run (Got h plugin ∷ past) ≡ with_place (arrivals run past) (plugin - 1) h None
  pub had : specs_for run h (Got h plugin ∷ past)
      ≡ with_spec (plugin, set_at run plugin (last_set (plugins run past) plugin) past) (specs_for run h past)

abbrev pub TakesArrive : Type 0
TakesArrive = (run : Run) (h plugin : ℕ) (past : List Item) → Legal run past → IsStateLog run past
    → 1 ≤ plugin → plugin ≤ length (plugins run past).plugins → h < run.harts → may_get run h plugin past ≡ true
    → HasArrived run h plugin past
