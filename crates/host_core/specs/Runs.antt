-- What a run leaves.
use Rattle.std.specs.Prelude.{◌≡◌, false, All}
use Rattle.flat_model.specs.declared.journals.Item.{Item}
use Rattle.flat_model.specs.declared.journals.Item.TheVariants.{Step, Ordered, GaveBack, Left, Told, Got, Took}
use Rattle.flat_model.specs.declared.journals.Origin.{Origin}
use Rattle.flat_model.specs.declared.journals.Origin.TheVariants.{Start, Script, Asked, Control}
use Rattle.run_rules.specs.Legal.{Whole}
use Rattle.run_order.specs.InOrder.{Task, task_run}
use Rattle.host_state.specs.State.{StateValue}

-- the plan gave the order, or a box did, and no controller
abbrev pub IsGivenInside : Origin → Type 0
IsGivenInside Start = Unit {0}
IsGivenInside (Script line party) = Unit {0}
IsGivenInside (Asked hart plugin) = Unit {0}
IsGivenInside (Control party) = ⊥

abbrev pub IsUncontrolled : Item → Type 0
IsUncontrolled (Step hart) = Unit {0}
IsUncontrolled (Ordered origin order) = IsGivenInside origin
IsUncontrolled (GaveBack hart plugin) = Unit {0}
IsUncontrolled (Left hart) = Unit {0}
IsUncontrolled (Told party plugin) = Unit {0}
IsUncontrolled (Got hart plugin) = Unit {0}
IsUncontrolled (Took party plugin) = Unit {0}

-- the state of a whole run of this task: no hart found too little memory, and no controller gave an order
pub record IsRunOf (t : Task) (s : StateValue) : Type 0 where
  pub task : s.task ≡ t
  pub whole : Whole (task_run t) s.past
  pub open_now : s.short ≡ false
  pub uncontrolled : All IsUncontrolled s.past

-- before any hold a log holds the plan's orders alone
abbrev pub IsOfPlan : Origin → Type 0
IsOfPlan Start = Unit {0}
IsOfPlan (Script line party) = Unit {0}
IsOfPlan (Asked hart plugin) = ⊥
IsOfPlan (Control party) = ⊥

abbrev pub IsPlanned : Item → Type 0
IsPlanned (Step hart) = ⊥
IsPlanned (Ordered origin order) = IsOfPlan origin
IsPlanned (GaveBack hart plugin) = ⊥
IsPlanned (Left hart) = ⊥
IsPlanned (Told party plugin) = ⊥
IsPlanned (Got hart plugin) = ⊥
IsPlanned (Took party plugin) = ⊥
