-- What the acts of attached sets do, in the words of a set's walk over events.
use Rattle.std.specs.Prelude.{◌≡◌, ◌-◌, ◌<◌, ◌≤◌, ◌≢◌, ℕ, List, [], map, length, slice_index_or, slice_set, All, AllPairs}
use Rattle.flat_model.specs.declared.events.Event.{Event}
use Rattle.flat_model.specs.declared.plugins.Act.{Act}
use Rattle.flat_model.specs.declared.plugins.Act.TheVariants.{Inline}
use Rattle.flat_model.specs.declared.plugins.Ask.{Ask}
use Rattle.flat_model.specs.declared.plugins.Ask.TheVariants.{Stay}
use Rattle.flat_model.specs.declared.plugins.Op.TheVariants.{Add}
use Rattle.event_walk.specs.Walk.{Walk, acts, first_ask}
use Rattle.watcher_api.specs.Attachment.{Attachment}

-- where a set has come to in its walk, with what its boxes asked for first
abbrev pub walk_of : Attachment → Ask → Walk
walk_of a asked = record { heard = a.heard; column = a.column; asked = asked }

-- the act of the subscription with an index; past the last one, an act of no set
abbrev pub act_in : List Act → ℕ → Act
act_in acts i = slice_index_or acts i (Inline Add 0 0)

-- the set carried out its act i at the event, and its box asked for this; its number and its acts stay
pub record HasActed (i : ℕ) (e : Event) (old new : Attachment) (ask : Ask) : Type 0 where
  pub number : new.plugin ≡ old.plugin
  pub same : new.acts ≡ old.acts
  pub done : (asked : Ask) → acts (act_in old.acts i) i e (walk_of old asked) ≡ walk_of new (first_ask asked ask)

-- Several sets, in the order of their numbers.

-- what plug-in p, from 1, asked for
abbrev pub ask_of : ℕ → List Ask → Ask
ask_of plugin asks = slice_index_or asks (plugin - 1) Stay

-- where each set has come to
abbrev pub walks_of : List Ask → List Attachment → List Walk
walks_of asks sets = map (λ a. walk_of a (ask_of a.plugin asks)) sets

-- what of the sets no event changes: their numbers and their acts
abbrev pub acts_of : List Attachment → List (ℕ × List Act)
acts_of sets = map (λ a. (a.plugin, a.acts)) sets

-- the acts of the set at a place
abbrev pub acts_at : List Attachment → ℕ → List Act
acts_at sets k = slice_index_or (map (λ a. a.acts) sets) k []

-- the entries of the set at a place
abbrev pub column_at : List Attachment → ℕ → List ℕ
column_at sets k = slice_index_or (map (λ a. a.column) sets) k []

-- a set that has no subscription
abbrev pub no_walk : Walk
no_walk = record { heard = []; column = []; asked = Stay }

-- the set at place k carries out its act i at the event
abbrev pub with_act : ℕ → ℕ → Act → Event → List Walk → List Walk
with_act k i act e walks = slice_set walks k (acts act i e (slice_index_or walks k no_walk))

-- no attached set is of this plug-in
abbrev pub IsAbsent : ℕ → List Attachment → Type 0
IsAbsent plugin sets = All (λ a. a.plugin ≢ plugin) sets

-- the set of the plug-in stands at this place
pub record IsPlaceOf (plugin : ℕ) (sets : List Attachment) (place : ℕ) : Type 0 where
  pub within : place < length sets
  pub there : (other : Attachment) → (slice_index_or sets place other).plugin ≡ plugin

-- each number is above those before
abbrev pub AreInOrder : List Attachment → Type 0
AreInOrder sets = AllPairs (λ a b. a.plugin < b.plugin) sets

-- each number is one that a plug-in can have
abbrev pub AreNumbered : List Attachment → Type 0
AreNumbered sets = All (λ a. (1 ≤ a.plugin) × (a.plugin ≤ 8)) sets
