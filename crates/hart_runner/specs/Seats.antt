-- What a hart's runner knows between its holds, in a hold, and once its part of a hold is done.
use Rattle.std.specs.Prelude.{◌≡◌, ◌<◌, ◌≤◌, ℕ, true, false, List, None, length, replicate}
use Rattle.flat_model.specs.declared.plugins.Ask.{Ask}
use Rattle.flat_model.specs.declared.plugins.Ask.TheVariants.{Stay}
use Rattle.flat_model.specs.declared.plugins.SetSpec.{SetSpec}
use Rattle.flat_model.specs.declared.journals.Item.{Item}
use Rattle.flat_model.specs.Log.{party, journaled, total_steps}
use Rattle.flat_model.specs.Registry.{plugin_of}
use Rattle.flat_model.specs.World.{HartState}
use Rattle.flat_model.specs.Worlds.{world, hart_of}
use Rattle.baton_gate.specs.Logs.{GoesOn}
use Rattle.rv_exec.specs.Sharing.{HasRoom}
use Rattle.watcher_api.specs.Attachment.{Attachment}
use Rattle.watcher_api.specs.Acting.{ask_of}
use Rattle.run_rules.specs.Guest.{plugins}
use Rattle.run_rules.specs.Heard.{is_live, waiting}
use Rattle.run_rules.specs.Due.{wanted}
use Rattle.run_rules.specs.Legal.{is_there, owes_any, asks_nothing}
use Rattle.run_rules.specs.Places.{place_of, is_with_hart, takes_all}
use Rattle.run_order.specs.Sets.{sets_for}
use Rattle.run_order.specs.InOrder.{Task, task_run}
use Rattle.kept_order.specs.Hearing.{specs_for}
use Rattle.host_state.specs.State.{StateValue}

-- between its holds: the runner is in order for the log that its pass has seen, its hart hasn't left, and a hart that runs is at the
-- start of a block; a parked one asks for nothing
pub record IsSeated (t : Task) (no : ℕ) (seen : List Item) (h : HartState) (sets : List Attachment) (filters : List (ℕ × SetSpec))
    (noted : List Ask) : Type 0 where
  pub there : is_there (task_run t) no seen ≡ true
  pub hart : h ≡ hart_of t.machine t.mode seen no
  pub attached : sets ≡ sets_for is_with_hart (task_run t) no seen
  pub specs : filters ≡ specs_for (task_run t) no seen
  pub asks : (plugin : ℕ) → 1 ≤ plugin → plugin ≤ 8 → is_live (plugin_of (plugins (task_run t) seen) plugin).state ≡ true
      → ask_of plugin noted ≡ waiting (task_run t) plugin no seen
  pub unasked : (plugin : ℕ) → 1 ≤ plugin → plugin ≤ 8 → is_with_hart (place_of (task_run t) plugin no seen) ≡ false
      → ask_of plugin noted ≡ waiting (task_run t) plugin no seen
  pub begins : h.ending ≡ None → h.since ≡ 0
  pub below : h.ending ≡ None → h.steps < t.machine.limit
  pub quiet : h.parked ≡ true → noted ≡ replicate 8 Stay

-- in a hold, as it begins: others have added to the log since; an ask may have lost its wait, and a parked hart may have its start
pub record IsBack (t : Task) (no : ℕ) (past : List Item) (h : HartState) (attached : List Attachment) (filters : List (ℕ × SetSpec))
    (noted : List Ask) : Type 0 where
  pub there : is_there (task_run t) no past ≡ true
  pub hart : h.parked ≡ false → h ≡ hart_of t.machine t.mode past no
  pub sets : attached ≡ sets_for is_with_hart (task_run t) no past
  pub specs : filters ≡ specs_for (task_run t) no past
  pub asks : (plugin : ℕ) → 1 ≤ plugin → plugin ≤ 8 → is_live (plugin_of (plugins (task_run t) past) plugin).state ≡ true
      → ask_of plugin noted ≡ waiting (task_run t) plugin no past

-- what a party has added to the log
abbrev pub Own : ℕ → List Item → List Item → Type 0
Own h seen past = GoesOn (λ i. party i ≡ h) seen past

-- an entry of the journal was added
abbrev pub HasWritten : List Item → List Item → Type 0
HasWritten seen past = length (journaled seen) < length (journaled past)

-- in a hold, once asks, Backs and arrived sets are dealt with
pub record HasEntered (no : ℕ) (seen : List Item) (s : StateValue) (attached : List Attachment) (filters : List (ℕ × SetSpec)) : Type 0
  where
    pub own : Own no seen s.past
    pub total : total_steps s.past ≡ total_steps seen
    pub there : is_there (task_run s.task) no s.past ≡ true
    pub owes_none : owes_any (task_run s.task) no s.past ≡ false
    pub asks_nothing : asks_nothing (task_run s.task) no s.past ≡ true
    pub caught_up : wanted (task_run s.task) s.past ≡ None
    pub takes_all : takes_all (task_run s.task) no s.past ≡ true
    pub sets : attached ≡ sets_for is_with_hart (task_run s.task) no s.past
    pub specs : filters ≡ specs_for (task_run s.task) no s.past
    pub world : world s.task.machine s.task.mode s.past ≡ world s.task.machine s.task.mode seen
    pub open_now : s.short ≡ false
    pub room : 4 ≤ s.journal.spare
    pub output : HasRoom s.services
