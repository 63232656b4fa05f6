-- A set that is attached to a hart, as plain data; `docs/plug-ins.md`, "Acts", says in words what its acts do.
use Rattle.std.specs.Prelude.{◌≡◌, ◌<◌, ◌≤◌, ◌==◌, ℕ, Bool, true, false, not, nat_lt, List, [], ◌∷◌, ◌++◌}
use Rattle.std.specs.Prelude.{filter, find, length, map, replicate, slice_get, slice_index, slice_index_or}
use Rattle.std.specs.Prelude.{Option, Some, None, option_map, option_and_then, IfSome}
use Rattle.flat_model.specs.declared.events.Event.{Event}
use Rattle.flat_model.specs.declared.plugins.Act.{Act}
use Rattle.flat_model.specs.declared.plugins.Act.TheVariants.{Call, Inline, Cond}
use Rattle.flat_model.specs.declared.plugins.Kind.{Kind}
use Rattle.flat_model.specs.declared.plugins.SetSpec.{SetSpec}
use Rattle.flat_model.specs.Columns.{opening_column, holds}
use Rattle.flat_model.specs.Registry.{entry_of}
use Rattle.watcher_api.specs.Heard.{Heard}

-- the plug-in's number; the act of each subscription; what each has heard, which is nothing where it calls no box; and
-- the hart's entries
pub record Attachment : Type 0 where
  pub plugin : ℕ
  pub acts : List Act
  pub heard : List (List Event)
  pub column : List ℕ

-- a set that has just been registered
abbrev pub opening : ℕ → SetSpec → Attachment
opening plugin spec = record {
  plugin = plugin;
  acts = map (λ s. s.act) spec.subs;
  heard = replicate (length spec.subs) [];
  column = opening_column spec.entries;
}

-- room for a set: a hart's entries, and how many acts have a place
pub record Room : Type 0 where
  pub column : List ℕ
  pub acts : ℕ

-- enough for a set
pub record IsRoomFor (spec : SetSpec) (room : Room) : Type 0 where
  pub column : room.column ≡ opening_column spec.entries
  pub acts : length spec.subs ≤ room.acts

-- the kind of the box that an act calls
abbrev pub called_kind : Act → Option Kind
called_kind (Call kind) = Some kind
called_kind (Inline op entry imm) = None
called_kind (Cond cond entry imm then_store kind) = Some kind

-- whether an act calls its box where these are the entries
abbrev pub calls_at : Act → List ℕ → Bool
calls_at (Call kind) column = true
calls_at (Inline op entry imm) column = false
calls_at (Cond cond entry imm then_store kind) column = holds cond (slice_index column entry) imm

-- an act that names no entry but one of so many
abbrev pub IsWithin : ℕ → Act → Type 0
IsWithin entries act = IfSome (entry_of act) (λ entry. entry < entries)

-- the box of an act that has heard these events; None where it calls none
abbrev pub box_with : List Event → Act → Option Heard
box_with events act = option_map (λ kind. record { kind = kind; events = events }) (called_kind act)

-- the box of the subscription with an index; None where there is none
abbrev pub box_at : ℕ → Attachment → Option Heard
box_at i a = option_and_then (box_with (slice_index_or a.heard i [])) (slice_get a.acts i)

-- the attached set of a plug-in
abbrev pub set_of : ℕ → List Attachment → Option Attachment
set_of plugin sets = find (λ a. a.plugin == plugin) sets

-- the sets without that of a plug-in
abbrev pub without : ℕ → List Attachment → List Attachment
without plugin sets = filter (λ a. not (a.plugin == plugin)) sets

-- the sets with one more, in the order of their numbers
abbrev pub with_set : Attachment → List Attachment → List Attachment
with_set a sets = filter (λ b. nat_lt b.plugin a.plugin) sets ++ a ∷ filter (λ b. nat_lt a.plugin b.plugin) sets
