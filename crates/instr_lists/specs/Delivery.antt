-- What delivery makes of attached sets, in the words of a set's walk over events.
use Rattle.std.specs.Prelude.{◌≡◌, ℕ, true, List, [], ◌∷◌, ◌++◌, ◌<◌, length, map, take, replicate, slice_index_or}
use Rattle.flat_model.specs.declared.events.Event.{Event}
use Rattle.flat_model.specs.declared.plugins.Act.{Act}
use Rattle.flat_model.specs.declared.plugins.Ask.{Ask}
use Rattle.flat_model.specs.declared.plugins.Ask.TheVariants.{Stay}
use Rattle.flat_model.specs.declared.plugins.SetSpec.{SetSpec}
use Rattle.flat_model.specs.declared.plugins.Sub.{Sub}
use Rattle.event_walk.specs.Matches.{Classes, matches}
use Rattle.event_walk.specs.Walk.{Walk, walk_from}
use Rattle.watcher_api.specs.Attachment.{Attachment, calls_at}
use Rattle.watcher_api.specs.Acting.{walks_of, act_in, with_act, no_walk}
use Rattle.instr_lists.specs.declared.slots.Slot.{Slot}

-- nobody has asked
abbrev pub no_asks : List Ask
no_asks = replicate 8 Stay

-- the numbers and the acts of sets with their filters
abbrev pub acts_with : List (ℕ × SetSpec) → List (ℕ × List Act)
acts_with sets = map (λ s. (s.0, map (λ (sub : Sub). sub.act) s.1.subs)) sets

-- where each set comes to by one event, and by events in their order
unfoldable pub each_hears : Classes → List (ℕ × SetSpec) → Event → List Walk → List Walk
each_hears classes [] e ws = ws
each_hears classes (s ∷ sets) e [] = []
each_hears classes (s ∷ sets) e (w ∷ ws) = walk_from classes e 0 s.1.subs w ∷ each_hears classes sets e ws

unfoldable pub each_walks : Classes → List (ℕ × SetSpec) → List Event → List Walk → List Walk
each_walks classes sets [] ws = ws
each_walks classes sets (e ∷ es) ws = each_walks classes sets es (each_hears classes sets e ws)

-- where they have come to inside an event: the sets ahead have heard it, the next set at its first subscriptions
unfoldable pub has_come : Classes → List (ℕ × SetSpec) → List Sub → Event → List Walk → List Walk
has_come classes ahead subs e [] = []
has_come classes [] subs e (w ∷ ws) = walk_from classes e 0 subs w ∷ ws
has_come classes (s ∷ ahead) subs e (w ∷ ws) = walk_from classes e 0 s.1.subs w ∷ has_come classes ahead subs e ws

-- all that the walk has before one call of a box was done, and nothing else: the events before, and of this event what
-- stands before the subscription, which matches it and calls its box
pub record StopsAtCall (classes : Classes) (sets : List (ℕ × SetSpec)) (e : Event) (from now : List Walk) : Type 0 where
  pub ahead : List (ℕ × SetSpec)
  pub set : ℕ × SetSpec
  pub behind : List (ℕ × SetSpec)
  pub parts : sets ≡ ahead ++ set ∷ behind
  pub first : List Sub
  pub sub : Sub
  pub last : List Sub
  pub subs : set.1.subs ≡ first ++ sub ∷ last
  pub matching : matches classes sub.filter e ≡ true
  pub calls : calls_at sub.act (slice_index_or now (length ahead) no_walk).column ≡ true
  pub came : now ≡ has_come classes ahead first e from

-- the same, of events in their order
pub record StopsAmong (classes : Classes) (sets : List (ℕ × SetSpec)) (raw : List Event) (from now : List Walk) : Type 0 where
  pub before : List Event
  pub event : Event
  pub after : List Event
  pub events : raw ≡ before ++ event ∷ after
  pub stops : StopsAtCall classes sets event (each_walks classes sets before from) now

-- and of the sets that are attached, where nobody has asked
pub record StopsIn (classes : Classes) (sets : List (ℕ × SetSpec)) (raw : List Event) (old new : List Attachment) : Type 0 where
  pub before : List Event
  pub event : Event
  pub after : List Event
  pub events : raw ≡ before ++ event ∷ after
  pub asks : List Ask
  pub stops : StopsAtCall classes sets event (each_walks classes sets before (walks_of no_asks old)) (walks_of asks new)

-- The same over slots.

-- the acts of sets, by their places and indices
abbrev pub act_at : List (List Act) → Slot → Act
act_at acts slot = act_in (slice_index_or acts slot.set []) slot.sub

-- a slot of these acts
pub record IsThere (acts : List (List Act)) (slot : Slot) : Type 0 where
  pub set : slot.set < length acts
  pub sub : slot.sub < length (slice_index_or acts slot.set [])

-- where the sets come to by the acts of slots, one after the other
unfoldable pub all_act : List (List Act) → Event → List Slot → List Walk → List Walk
all_act acts e [] ws = ws
all_act acts e (slot ∷ slots) ws = all_act acts e slots (with_act slot.set slot.sub (act_at acts slot) e ws)

-- the acts before one that calls its box were carried out, and nothing else
pub record StopsAtSlot (acts : List (List Act)) (e : Event) (slots : List Slot) (from now : List Walk) : Type 0 where
  pub place : ℕ
  pub within : place < length slots
  pub calls : (d : Slot) → calls_at (act_at acts (slice_index_or slots place d))
      (slice_index_or now (slice_index_or slots place d).set no_walk).column ≡ true
  pub came : now ≡ all_act acts e (take place slots) from
