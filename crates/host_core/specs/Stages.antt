-- The runners of a run before its first hold, and once their harts have left.
use Rattle.std.specs.Prelude.{◌≡◌, ◌+◌, ℕ, true, false, List, [], map, replicate, All, Option, Some, MatchOption}
use Rattle.std.specs.List.{range_with_len}
use Rattle.flat_model.specs.declared.journals.Item.{Item}
use Rattle.flat_model.specs.declared.journals.Item.TheVariants.{Step, Ordered, GaveBack, Left, Told, Got, Took}
use Rattle.flat_model.specs.declared.journals.Mode.{Mode}
use Rattle.flat_model.specs.declared.plugins.Ask.TheVariants.{Stay}
use Rattle.flat_model.specs.Image.{Program}
use Rattle.flat_model.specs.Log.{party}
use Rattle.flat_model.specs.World.{Machine, opening_hart}
use Rattle.block_finder.specs.Caches.{MayServe}
use Rattle.instr_lists.specs.declared.kept_lists.KeptList.{KeptList}
use Rattle.run_rules.specs.Legal.{Whole}
use Rattle.run_order.specs.InOrder.{Task, task_run}
use Rattle.baton_gate.specs.declared.passes.Pass.{Pass}
use Rattle.baton_gate.specs.declared.gate.Gate.{Gate}
use Rattle.baton_gate.specs.Logs.{GoesOn, Ahead}
use Rattle.baton_gate.specs.Passes.{IsPassOf, IsNewPass, holds, seen, carries}
use Rattle.host_state.specs.State.{StateValue}
use Rattle.hart_runner.specs.declared.seats.Seat.{Seat}
use Rattle.hart_runner.specs.Turns.{HasLeftLast, HasLists, Sits}
use Rattle.host_core.specs.Runs.{IsUncontrolled}

module _ {W : Type 0} where
  -- the seat of a machine's hart before any hold: it has no sets, and nothing was asked for
  pub record IsFirstSeat (m : Machine) (mode : Mode) (h : ℕ) (seat : Seat W) : Type 0 where
    pub number : seat.no ≡ h
    pub image_is : seat.image.value ≡ m.image
    pub limit_is : seat.limit ≡ m.limit
    pub hart_is : seat.hart ≡ opening_hart m.image mode h m.harts
    pub no_sets : seat.attached ≡ []
    pub no_specs : seat.specs ≡ []
    pub no_asks : seat.asks.first ≡ replicate 8 Stay
    pub stores : seat.raw.kept ≡ true

module _ {S : Type 0} where
  -- a runner of the gate between its turns
  pub record IsReady {W : Type 0} (gate : Gate S Item Task) (pass : Pass S Item Task) (seat : Option (Seat W)) (blocks : Option Program)
      (lists : List KeptList) : Type 0 where
    pub of_gate : IsPassOf gate pass
    pub free : holds pass ≡ false
    pub sits : (t : Task) → carries pass ≡ Some t → MatchOption seat ⊥ (Sits t pass.party (seen pass))
    pub serves : (t : Task) → carries pass ≡ Some t → MayServe blocks t.machine.image
    pub kept : MatchOption seat ⊥ (HasLists lists)

  -- the pass of a runner whose hart has left
  pub record IsOver (gate : Gate S Item Task) (pass : Pass S Item Task) : Type 0 where
    pub of_gate : IsPassOf gate pass
    pub free : holds pass ≡ false
    pub left : HasLeftLast pass.party (seen pass)

  -- each hart of the run has left, by the passes of their runners, and the last pass of the gate hasn't been used
  pub record MayFinish (gate : Gate S Item Task) (own : Pass S Item Task) (passes : List (Pass S Item Task)) : Type 0 where
    pub task : Task
    pub fresh : IsNewPass gate own task.machine.harts (task.machine.harts + 1) (seen own) task
    pub over : All (IsOver gate) passes
    pub harts : map (λ (p : Pass S Item Task). p.party) passes ≡ range_with_len 0 task.machine.harts

  -- the state of the gate once it is whole: its log began with what each runner's pass had seen, and has past that no item of its
  -- hart; and no controller gave an order
  pub record IsFinished (own : Pass S Item Task) (passes : List (Pass S Item Task)) (s : StateValue) : Type 0 where
    pub task : carries own ≡ Some s.task
    pub whole : Whole (task_run s.task) s.past
    pub open_now : s.short ≡ false
    pub ended : All (λ (p : Pass S Item Task). Ahead party s.past p.party (seen p)) passes
    pub uncontrolled : GoesOn IsUncontrolled (seen own) s.past
