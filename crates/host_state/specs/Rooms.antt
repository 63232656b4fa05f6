-- Room for what the closers of plug-ins are told: it is taken where a set is registered, so that a completion takes no memory.
use Rattle.std.specs.Prelude.{◌≡◌, ◌<◌, ◌≤◌, ◌-◌, ◌*◌, ℕ, Bool, true, false, List, [], ◌∷◌, ◌++◌, length, slice_index_or}
use Rattle.flat_model.specs.declared.journals.Item.{Item}
use Rattle.flat_model.specs.declared.limits.TheConstants.{CALLING_MOST}
use Rattle.run_rules.specs.Guest.{Run, plugins}
use Rattle.run_rules.specs.Places.{Place, Nowhere, Waiting, WithHart, Parked, Out, place_of}

-- for so many boxes and so many columns
pub record Room : Type 0 where
  pub boxes : ℕ
  pub columns : ℕ

abbrev pub no_room : Room
no_room = record { boxes = 0; columns = 0 }

-- the boxes and columns of any set find room that so many harts give back
pub record IsRoomFor (harts : ℕ) (room : Room) : Type 0 where
  pub boxes : harts * CALLING_MOST ≤ room.boxes
  pub columns : harts ≤ room.columns

-- the set of a hart is registered, and hasn't gone out yet
abbrev pub is_kept : Place → Bool
is_kept Nowhere = false
is_kept Waiting = true
is_kept WithHart = true
is_kept Parked = true
is_kept Out = false

-- each plug-in has its room while its set hasn't gone out
pub record HasRooms (run : Run) (past : List Item) (rooms : List Room) : Type 0 where
  pub count : length rooms ≡ length (plugins run past).plugins
  pub each : (plugin h : ℕ) → 1 ≤ plugin → h < run.harts → is_kept (place_of run plugin h past) ≡ true
      → IsRoomFor run.harts (slice_index_or rooms (plugin - 1) no_room)

-- one room more, for any set of so many harts
pub record AddsRoom (harts : ℕ) (old new : List Room) : Type 0 where
  pub room : Room
  pub fits : IsRoomFor harts room
  pub is : new ≡ old ++ room ∷ []
