-- Completions that a party may take, and what goes out to it.
use Rattle.std.specs.Prelude.{◌≡◌, ◌<◌, ◌≤◌, ◌+◌, ◌-◌, ◌&&◌, ℕ, Bool, true, false, List, [], ◌∷◌, length, slice_index_or}
use Rattle.std.specs.Prelude.{Option, Some, None, is_some, option_map}
use Rattle.std.specs.Option.{option_or}
use Rattle.std.specs.List.{cons_option}
use Rattle.flat_model.specs.declared.journals.Item.TheVariants.{Took}
use Rattle.flat_model.specs.declared.limits.TheConstants.{SUBS_MOST, CALLING_MOST}
use Rattle.flat_model.specs.Registry.{Plugins, is_complete}
use Rattle.score_boards.specs.declared.ParkedColumn.{ParkedColumn}
use Rattle.watcher_api.specs.declared.closers.Parked.{Parked}
use Rattle.watcher_api.specs.declared.held_acts.HeldAct.{HeldAct}
use Rattle.watcher_api.specs.declared.held_acts.HeldAct.TheVariants.{Call, Inline, Cond}
use Rattle.watcher_api.specs.Attachment.{Attachment}
use Rattle.watcher_api.specs.Heard.{Heard}
use Rattle.run_order.specs.Sets.{Notice, notice_of, notices_of, boxes_back}
use Rattle.run_order.specs.InOrder.{task_run}
use Rattle.kept_order.specs.Closing.{is_due}
use Rattle.host_state.specs.Rooms.{Room, IsRoomFor}
use Rattle.host_state.specs.State.{StateValue}

-- no closing may be taken
abbrev pub NoneIsDue : StateValue → Type 0
NoneIsDue s = (p : ℕ) → 1 ≤ p → p ≤ length s.registry.table.plugins → is_due (task_run s.task) p s.past ≡ false

-- the closing of this plug-in may be taken, and of none before it
pub record IsLeastDue (s : StateValue) (plugin : ℕ) : Type 0 where
  pub due : is_due (task_run s.task) plugin s.past ≡ true
  pub least : (p : ℕ) → 1 ≤ p → p < plugin → is_due (task_run s.task) p s.past ≡ false

-- the party took the closing of a plug-in: the closer has the notices so far, and is to be told what was withdrawn
pub record IsOutWith (party : ℕ) (old new : StateValue) (plugin : ℕ) (given : List Notice) (next : Notice) : Type 0 where
  pub past : new.past ≡ Took party plugin ∷ old.past
  pub notices : given ≡ notices_of (task_run old.task) plugin old.past
  pub back : next ≡ notice_of (task_run old.task) plugin old.past

-- the least that was due
pub record IsClosing (party : ℕ) (old new : StateValue) (plugin : ℕ) (given : List Notice) (next : Notice) : Type 0 where
  pub due : is_due (task_run old.task) plugin old.past ≡ true
  pub least : (p : ℕ) → 1 ≤ p → p < plugin → is_due (task_run old.task) p old.past ≡ false
  pub past : new.past ≡ Took party plugin ∷ old.past
  pub notices : given ≡ notices_of (task_run old.task) plugin old.past
  pub back : next ≡ notice_of (task_run old.task) plugin old.past

-- Parts of it.

-- by the registry, and by which closers are there
abbrev pub is_ready : {C : Type 0} → Plugins → List (Option C) → ℕ → Bool
is_ready table closers p = is_complete table p && is_some (slice_index_or closers (p - 1) None)

pub record IsLeastReady {C : Type 0} (table : Plugins) (closers : List (Option C)) (plugin : ℕ) : Type 0 where
  pub number : 1 ≤ plugin
  pub ready : is_ready table closers plugin ≡ true
  pub least : (p : ℕ) → 1 ≤ p → p < plugin → is_ready table closers p ≡ false

-- the box of an act
abbrev pub box_of : HeldAct Heard → Option Heard
box_of (Call watcher) = Some watcher
box_of (Inline op entry imm) = None
box_of (Cond cond entry imm then_store watcher) = Some watcher

abbrev pub parked_box : ℕ → ℕ → Heard → Parked Heard
parked_box h sub watcher = record { hart = h; sub = sub; watcher = watcher }

abbrev pub parked_column : ℕ → Attachment → ParkedColumn
parked_column h a = record { hart = h; column = a.column }

-- the boxes of acts from an index on
abbrev pub boxes_in : ℕ → ℕ → List (HeldAct Heard) → List (Parked Heard)
boxes_in h sub [] = []
boxes_in h sub (x ∷ xs) = cons_option (option_map (parked_box h sub) (box_of x)) (boxes_in h (sub + 1) xs)

-- the set that goes out of a row of sets that wait and a row of sets that are parked
abbrev pub set_at : {A : Type 0} → (A → Attachment) → List (Option A) → List (Option Attachment) → ℕ → Option Attachment
set_at f waiting parked h = option_or (option_map f (slice_index_or waiting h None)) (slice_index_or parked h None)

-- few acts, of which few call
pub record IsSmall (a : Attachment) : Type 0 where
  pub acts : length a.acts ≤ SUBS_MOST
  pub boxes : (h : ℕ) → length (boxes_back h a) ≤ CALLING_MOST

-- there is room for a set with the others of its plug-in
pub record HasPlace (harts : ℕ) (room : Room) (a : Attachment) : Type 0 where
  pub small : IsSmall a
  pub fits : IsRoomFor harts room
