-- What becomes of the stored state where a party takes the closing of a plug-in, and where it has told the closer.
use Rattle.std.specs.Prelude.{◌≡◌, ◌-◌, ◌&&◌, ℕ, Bool, true, not, List, [], ◌∷◌, ◌++◌, replicate, slice_set, slice_index_or}
use Rattle.std.specs.Prelude.{Option, Some, None, is_some}
use Rattle.std.specs.Option.{option_or, option_map_or}
use Rattle.std.specs.List.{flat_map, filter_map}
use Rattle.flat_model.specs.declared.journals.Item.{Item}
use Rattle.flat_model.specs.declared.journals.Item.TheVariants.{Took, Told}
use Rattle.flat_model.specs.Log.{log}
use Rattle.flat_model.specs.Registry.{plugin_of, after_done, is_complete}
use Rattle.watcher_api.specs.Attachment.{Attachment}
use Rattle.run_rules.specs.Guest.{Run, plugins}
use Rattle.run_rules.specs.Legal.{Legal}
use Rattle.run_rules.specs.Places.{StateRule, taker}
use Rattle.run_order.specs.Sets.{Notice, harts_of, boxes_back, how_closed, notice_of, notices_of}
use Rattle.run_order.specs.InOrder.{Task, Stored, InOrder, task_run}
use Rattle.kept_order.specs.Arriving.{arrivals}

-- what stands at a place of a table
abbrev pub at_place : List (List (Option Attachment)) → ℕ → ℕ → Option Attachment
at_place rows i j = slice_index_or (slice_index_or rows i []) j None

-- the set of hart h that goes into a closing: it waits for a hart that has left, or it is parked
abbrev pub closed_set : Stored → ℕ → ℕ → Option Attachment
closed_set s plugin h = option_or (at_place s.waiting (plugin - 1) h) (at_place s.parked (plugin - 1) h)

-- the notice of the sets that the state has, hart by hart
abbrev pub notice_from : Run → Stored → ℕ → Notice
notice_from run s plugin = record {
  plugin = plugin;
  how = how_closed (plugin_of s.plugins plugin).state;
  boxes = flat_map (λ h. option_map_or (boxes_back h) (closed_set s plugin h) []) (harts_of run);
  columns = filter_map
      (λ h. option_map_or (λ a. Some (record { hart = h; column = a.column })) (closed_set s plugin h) None) (harts_of run);
}

-- the sets and the closer are out
pub record IsTaken (t : Task) (party plugin : ℕ) (old new : Stored) : Type 0 where
  pub past : new.past ≡ Took party plugin ∷ old.past
  pub entries : new.entries ≡ old.entries
  pub shared : new.shared ≡ old.shared
  pub plugins : new.plugins ≡ old.plugins
  pub waiting : new.waiting ≡ slice_set old.waiting (plugin - 1) (replicate t.machine.harts None)
  pub parked : new.parked ≡ slice_set old.parked (plugin - 1) (replicate t.machine.harts None)
  pub harts : new.harts ≡ old.harts
  pub closers : new.closers ≡ slice_set old.closers (plugin - 1) None

pub record IsOut (t : Task) (party plugin : ℕ) (old new : Stored) : Type 0 where
  pub order : InOrder t new
  pub arrivals : arrivals (task_run t) new.past ≡ slice_set (arrivals (task_run t) old.past) (plugin - 1) (replicate t.machine.harts None)
  -- what the closer is told is what the definitions say, and the closer has the notices so far
  pub notice : notice_from (task_run t) old plugin ≡ notice_of (task_run t) plugin old.past
  pub same_notice : notice_of (task_run t) plugin new.past ≡ notice_of (task_run t) plugin old.past
  pub notices : slice_index_or old.closers (plugin - 1) None ≡ Some (notices_of (task_run t) plugin old.past)
  pub same_notices : notices_of (task_run t) plugin new.past ≡ notices_of (task_run t) plugin old.past

abbrev pub ClosingsKeepOrder : Type 0
ClosingsKeepOrder = (t : Task) (party plugin : ℕ) (old new : Stored) → InOrder t old
    → is_complete (plugins (task_run t) old.past) plugin ≡ true → taker plugin old.past ≡ None
    → IsTaken t party plugin old new → IsOut t party plugin old new

-- the closer is back, with one notice more, and the plug-in's withdrawal is done
pub record IsTold (t : Task) (party plugin : ℕ) (old new : Stored) : Type 0 where
  pub past : new.past ≡ Told party plugin ∷ old.past
  pub journal : log new.entries ≡ Told party plugin ∷ log old.entries
  pub shared : new.shared ≡ old.shared
  pub plugins : new.plugins ≡ after_done plugin old.plugins
  pub waiting : new.waiting ≡ old.waiting
  pub parked : new.parked ≡ old.parked
  pub harts : new.harts ≡ old.harts
  pub closers : new.closers ≡ slice_set old.closers (plugin - 1)
      (Some (notices_of (task_run t) plugin old.past ++ notice_of (task_run t) plugin old.past ∷ []))

pub record IsDone (t : Task) (old new : Stored) : Type 0 where
  pub order : InOrder t new
  pub arrivals : arrivals (task_run t) new.past ≡ arrivals (task_run t) old.past

abbrev pub DonesKeepOrder : Type 0
DonesKeepOrder = (t : Task) (party plugin : ℕ) (old new : Stored) → InOrder t old
    → Legal (task_run t) (Told party plugin ∷ old.past) → StateRule (task_run t) (Told party plugin) old.past
    → IsTold t party plugin old new → IsDone t old new

-- a plug-in is complete and its closing isn't out: a party may take it
abbrev pub is_due : Run → ℕ → List Item → Bool
is_due run plugin past = is_complete (plugins run past) plugin && not (is_some (taker plugin past))
