-- What the closers of plug-ins were told of sets that have ended, which hear nothing more, so that it is what the log says of them
-- still; and where the sets are that haven't ended, once every hart has left.
use Rattle.std.specs.Prelude.{◌≡◌, ◌<◌, ◌≤◌, ℕ, true, false, List, length, map, Some, is_some, slice_index_or}
use Rattle.std.specs.List.{flat_map}
use Rattle.flat_model.specs.declared.plugins.SetSpec.{SetSpec}
use Rattle.flat_model.specs.declared.journals.Item.{Item}
use Rattle.flat_model.specs.Registry.{plugin_of, is_closing, ending_of, has_left}
use Rattle.watcher_api.specs.Attachment.{Attachment}
use Rattle.run_rules.specs.Guest.{Run, plugins}
use Rattle.run_rules.specs.Heard.{Progress, progress, set_at, is_live}
use Rattle.run_rules.specs.Legal.{Legal}
use Rattle.run_order.specs.Sets.{Notice, attachment_of, harts_of, boxes_back, notices_of}
use Rattle.run_order.specs.InOrder.{Task, Stored, InOrder, task_run}
use Rattle.kept_order.specs.Closing.{closed_set}

-- a set of these subscriptions, of which a hart's events have made this
abbrev pub made_of : ℕ → SetSpec → Progress → Attachment
made_of plugin spec p =
    record { plugin = plugin; acts = map (λ s. s.act) spec.subs; heard = p.walk.heard; column = p.walk.column }

-- a set of a plug-in, by its place, as hart h's events have made it
abbrev pub set_made : Run → ℕ → ℕ → ℕ → List Item → Attachment
set_made run plugin set h past =
    let spec = set_at run plugin set past in made_of plugin spec (progress run spec plugin set h past)

-- a notice has all boxes and columns of a set, hart by hart
pub record HasSet (harts : List ℕ) (sets : ℕ → Attachment) (n : Notice) : Type 0 where
  pub boxes : n.boxes ≡ flat_map (λ h. boxes_back h (sets h)) harts
  pub columns : n.columns ≡ map (λ h. record { hart = h; column = (sets h).column }) harts

-- the notice of a set is there
pub record IsTold (run : Run) (plugin set : ℕ) (past : List Item) : Type 0 where
  pub there : set < length (notices_of run plugin past)
  pub notice : (d : Notice)
      → HasSet (harts_of run) (λ h. set_made run plugin set h past) (slice_index_or (notices_of run plugin past) set d)

-- once no withdrawal of the plug-in goes on, each set that has ended is in the notice at its own place
abbrev pub EndedSetsAreTold : Type 0
EndedSetsAreTold = (run : Run) (plugin set : ℕ) (past : List Item) → 1 ≤ plugin → Legal run past
    → is_closing (plugin_of (plugins run past) plugin).state ≡ false → is_some (ending_of (plugins run past) plugin set) ≡ true
    → IsTold run plugin set past

-- the last set of a plug-in that is Live is in the state, where the hart has left
abbrev pub LiveSetsAreThere : Type 0
LiveSetsAreThere = (t : Task) (plugin h : ℕ) (s : Stored) → InOrder t s → 1 ≤ plugin → plugin ≤ length s.plugins.plugins
    → h < t.machine.harts → has_left s.plugins h ≡ true → is_live (plugin_of s.plugins plugin).state ≡ true
    → closed_set s plugin h ≡ Some (attachment_of (task_run t) plugin h s.past)

-- a set keeps the numbers of its entries and subscriptions
pub record KeepsWidths (spec : SetSpec) (p : Progress) : Type 0 where
  pub entries : length p.walk.column ≡ spec.entries
  pub subs : length p.walk.heard ≡ length spec.subs

abbrev pub SetsKeepWidths : Type 0
SetsKeepWidths = (run : Run) (spec : SetSpec) (plugin set h : ℕ) (past : List Item)
    → KeepsWidths spec (progress run spec plugin set h past)
