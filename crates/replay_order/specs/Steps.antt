-- What one step of a hart makes of its seat.
use Rattle.std.specs.Prelude.{◌≡◌, ◌≤◌, ◌<◌, ◌-◌, ◌+◌, ◌∷◌, ℕ, true, false, if◌then◌else◌, min, List, None, All, slice_index_or}
use Rattle.flat_model.specs.declared.plugins.Ask.{Ask}
use Rattle.flat_model.specs.declared.plugins.Ask.TheVariants.{Stay}
use Rattle.flat_model.specs.declared.journals.Item.{Item}
use Rattle.flat_model.specs.declared.journals.Item.TheVariants.{Step}
use Rattle.flat_model.specs.declared.limits.TheConstants.{BLOCK_WORDS}
use Rattle.flat_model.specs.Asks.{stays}
use Rattle.flat_model.specs.Registry.{plugin_of}
use Rattle.flat_model.specs.Worlds.{hart_of, next_step}
use Rattle.block_finder.specs.Block.{Stretch, IsBlock}
use Rattle.event_walk.specs.Matches.{classes_of}
use Rattle.event_walk.specs.Walk.{first_ask}
use Rattle.instr_lists.specs.Sorts.{LiesIn}
use Rattle.instr_lists.specs.Delivery.{no_asks, each_walks}
use Rattle.watcher_api.specs.Attachment.{Attachment}
use Rattle.watcher_api.specs.Acting.{acts_of, ask_of, walks_of, IsAbsent}
use Rattle.run_rules.specs.Guest.{plugins}
use Rattle.run_rules.specs.Heard.{is_live, waiting, steps_since}
use Rattle.run_rules.specs.Legal.{Legal}
use Rattle.run_rules.specs.Places.{IsStateLog, is_with_hart}
use Rattle.run_order.specs.Sets.{sets_for}
use Rattle.run_order.specs.InOrder.{Task, task_run}
use Rattle.kept_order.specs.Hearing.{specs_for}
use Rattle.replay_order.specs.Seats.{Seating, Sits}

-- its events lie in the block at its pc, whether or not it starts one
abbrev pub StepsLie : Type 0
StepsLie = (t : Task) (h : ℕ) (past : List Item) (block : Stretch)
    → IsBlock t.machine.image (hart_of t.machine t.mode past h).pc block
    → All (λ e. LiesIn block e.what) (next_step t.machine t.mode past h).events

-- the sets of the hart have heard it, and asked for this in it
pub record HasHeardStep (t : Task) (h : ℕ) (past : List Item) (heard : List Attachment) (asked : List Ask) : Type 0 where
  pub sets : heard ≡ sets_for is_with_hart (task_run t) h (Step h ∷ past)
  pub asks : (p : ℕ) → 1 ≤ p → is_live (plugin_of (plugins (task_run t) past) p).state ≡ true
      → waiting (task_run t) p h (Step h ∷ past) ≡ first_ask (waiting (task_run t) p h past) (ask_of p asked)
  pub since : (p : ℕ) → 1 ≤ p → is_live (plugin_of (plugins (task_run t) past) p).state ≡ true
      → steps_since (task_run t) p h (Step h ∷ past)
      ≡ (if stays (waiting (task_run t) p h past) then 0 else steps_since (task_run t) p h past + 1)

abbrev pub StepsAreHeard : Type 0
StepsAreHeard = (t : Task) (h : ℕ) (past : List Item) (sets : List Attachment) (asks : List Ask)
    → h < t.machine.harts → Legal (task_run t) (Step h ∷ past) → IsStateLog (task_run t) (Step h ∷ past)
    → acts_of sets ≡ acts_of (sets_for is_with_hart (task_run t) h past)
    → walks_of asks sets ≡ each_walks (classes_of t.machine.image) (specs_for (task_run t) h past)
    (next_step t.machine t.mode past h).events (walks_of no_asks (sets_for is_with_hart (task_run t) h past))
    → HasHeardStep t h past sets asks

-- what the seat notes of it
pub record IsNoted (old new : Seating) (asked : List Ask) : Type 0 where
  pub filters : new.filters ≡ old.filters
  pub first : (p : ℕ) → 1 ≤ p → p ≤ 8 → ask_of p new.asks ≡ first_ask (ask_of p old.asks) (ask_of p asked)
  pub since : (p : ℕ) → 1 ≤ p → p ≤ 8 → slice_index_or new.since (p - 1) 0
      ≡ (if stays (ask_of p old.asks) then 0 else min (slice_index_or old.since (p - 1) 0 + 1) BLOCK_WORDS)

-- so the hart sits behind the step
abbrev pub StepsKeepSeats : Type 0
StepsKeepSeats = (t : Task) (h : ℕ) (past : List Item) (old new : Seating) (asks : List Ask)
    → h < t.machine.harts → Legal (task_run t) (Step h ∷ past) → IsStateLog (task_run t) (Step h ∷ past)
    → Sits t h past old
    → new.hart ≡ hart_of t.machine t.mode (Step h ∷ past) h → new.hart.parked ≡ false
    → (new.hart.ending ≡ None → new.hart.steps < t.machine.limit)
    → acts_of new.sets ≡ acts_of old.sets
    → walks_of asks new.sets ≡ each_walks (classes_of t.machine.image) old.filters
    (next_step t.machine t.mode past h).events (walks_of no_asks old.sets)
    → ((p : ℕ) → 1 ≤ p → IsAbsent p old.sets → ask_of p asks ≡ Stay)
    → IsNoted old new asks
    → Sits t h (Step h ∷ past) new
