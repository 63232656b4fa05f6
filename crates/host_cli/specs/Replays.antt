-- Replays: what they are made of, and why there is none where all of this was read.
use Rattle.std.specs.Prelude.{◌≡◌, ℕ, List, Option, MatchOption}
use Rattle.flat_model.specs.declared.journals.Entry.{Entry}
use Rattle.flat_model.specs.Image.{Program}
use Rattle.flat_model.specs.Plan.{Planned}
use Rattle.command_words.specs.declared.values.RunOptions.{RunOptions}
use Rattle.journal_file.specs.Head.{FileState}
use Rattle.call_inputs.specs.declared.refusals.Refusal.{Refusal}
use Rattle.call_inputs.specs.declared.refusals.Refusal.TheVariants.{NotThisRun, OutOfMemory}
use Rattle.call_inputs.specs.Inputs.{Storage, IsImageOf, IsPlanOf, IsJournalFile}
use Rattle.run_rules.specs.Legal.{IsBrokenAt}
use Rattle.run_order.specs.InOrder.{Task, task_run}
use Rattle.host_cli.specs.Refusals.{head_for}

-- the image of the file, the plan that the words spell, and what the journal file holds, which tells of no other run
pub record AreReplayed (files : Storage) (options : RunOptions) (script : Option (List ℕ)) (file journal : List ℕ)
    (plugins : List (List ℕ)) (image : Program) (plan : Planned) (held : FileState) : Type 0 where
  pub image_is : IsImageOf files file image
  pub plan_is : IsPlanOf files options.harts plugins script plan
  pub journal_is : IsJournalFile files journal held
  pub of_this_run : MatchOption held.head (Unit {0}) (λ made. made ≡ head_for options)

-- why the entries aren't replayed: they are no whole journal of a run of the task, and this is their place; or there is too little memory
abbrev pub ReplayedCause : Task → List Entry → Refusal → Type 0
ReplayedCause t es (NotThisRun place) = IsBrokenAt (task_run t) es place
ReplayedCause t es OutOfMemory = Unit {0}
ReplayedCause t es _ = ⊥
