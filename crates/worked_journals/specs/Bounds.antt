-- How far a Turn may go on past the moment of a line, and past a step in which a box asks.
use Rattle.std.specs.Prelude.{ℕ, ◌≡◌, true, false, List, [], ◌∷◌, Some}
use Rattle.flat_model.specs.declared.journals.Entry.TheVariants.{Turn}
use Rattle.flat_model.specs.declared.journals.Item.{Item}
use Rattle.flat_model.specs.declared.journals.Item.TheVariants.{Ordered}
use Rattle.flat_model.specs.declared.journals.Order.TheVariants.{Reset}
use Rattle.flat_model.specs.declared.journals.Origin.TheVariants.{Script}
use Rattle.flat_model.specs.declared.limits.TheConstants.{RACK_BOXES}
use Rattle.flat_model.specs.Log.{log}
use Rattle.run_rules.specs.Guest.{Run}
use Rattle.run_rules.specs.Due.{wanted, in_time}
use Rattle.run_rules.specs.Legal.{may_step, passes_nothing_by}
use Rattle.worked_journals.specs.Cases.{start, at}
use Rattle.worked_journals.specs.Guests.{jumping, standing_in, all_jumps}
use Rattle.worked_journals.specs.Sets.{set, leaving_after}

-- one hart that jumps as long as one likes, and a script of the line `at 1 reset 1`
abbrev pub late : Run
late = record {
  guest = standing_in all_jumps (jumping 1000 ∷ []);
  harts = 1;
  boxes = RACK_BOXES;
  plan = record { installs = set 0 [] ∷ []; script = at 1 (Reset 1) ∷ [] };
}

abbrev pub late_turn : ℕ → List Item
late_turn n = log (start (set 0 []) ∷ Turn 0 n ∷ [])

-- 511 steps past its moment the line may stand. With one step more it may not, and nothing else may stand there but the Turn,
-- which goes on
pub record IsLateIn (run : Run) : Type 0 where
  pub wants : wanted run (late_turn 512) ≡ Some (Ordered (Script 0 0) (Reset 1))
  pub stands : in_time run 0 (late_turn 512) ≡ true
  pub comes_late : in_time run 0 (late_turn 513) ≡ false
  pub is_passed : passes_nothing_by run (late_turn 513) ≡ false
  pub goes_on : may_step run 0 (late_turn 513) ≡ true

-- the same hart, and a plug-in whose box asks for its uninstall at the first instruction
abbrev pub eager : Run
eager = record {
  guest = standing_in all_jumps (jumping 1000 ∷ []);
  harts = 1;
  boxes = RACK_BOXES;
  plan = record { installs = leaving_after 1 ∷ []; script = [] };
}

abbrev pub eager_turn : ℕ → List Item
eager_turn n = log (start (leaving_after 1) ∷ Turn 0 n ∷ [])

-- 511 steps of the Turn may follow the one in which the box asks, and no more
pub record IsEagerIn (run : Run) : Type 0 where
  pub follows : may_step run 0 (eager_turn 511) ≡ true
  pub ends : may_step run 0 (eager_turn 512) ≡ false
