-- The lists of a block: for each sort of event the slots that hear it, one behind the other.
use Rattle.std.specs.Prelude.{◌≡◌, ◌<◌, ◌≤◌, ◌+◌, ◌*◌, ℕ, Bool, List, [], take, flat_map, length, slice_index, slice_index_or, Some}
use Rattle.flat_model.specs.declared.plugins.SetSpec.{SetSpec}
use Rattle.flat_model.specs.declared.events.What.{What}
use Rattle.flat_model.specs.declared.plugins.Filter.{Filter}
use Rattle.block_finder.specs.declared.blocks.Site.{Site}
use Rattle.block_finder.specs.Block.{Stretch}
use Rattle.event_walk.specs.Matches.{Classes, lets_through}
use Rattle.instr_lists.specs.declared.sorts.Sort.{Sort}
use Rattle.instr_lists.specs.declared.slots.Slot.{Slot}
use Rattle.instr_lists.specs.declared.sorts.Sort.TheVariants.{Init}
use Rattle.instr_lists.specs.Sorts.{passes, sorts_of}
use Rattle.instr_lists.specs.Slots.{slots_of}

-- the sorts of event that were resolved so far, for these sets; and whether there can be more
pub record Resolved : Type 0 where
  pub sets : List (ℕ × SetSpec)
  pub sorts : List Sort
  pub grows : Bool

-- where the slots of a sort begin among all
abbrev pub start_of : List (ℕ × SetSpec) → List Sort → ℕ → ℕ
start_of sets sorts place = length (flat_map (slots_of sets) (take place sorts))

-- all slots in a row, and where each sort's begin, unless there is no slot
pub record IsResolved (sets : List (ℕ × SetSpec)) (sorts : List Sort) (slots : List Slot) (starts : List ℕ) : Type 0 where
  pub all : slots ≡ flat_map (slots_of sets) sorts
  pub many : 0 < length starts → length starts ≡ length sorts + 1
  pub begins : 0 < length starts → (place : ℕ) → place ≤ length sorts → slice_index starts place ≡ start_of sets sorts place
  pub silent : length starts ≡ 0 → slots ≡ []

-- a block with the sets that its lists are for
pub record Listed : Type 0 where
  pub block : Stretch
  pub sets : List (ℕ × SetSpec)

-- the words of the block stand at their places, and their classes are these
pub record HasClasses (classes : Classes) (block : Stretch) : Type 0 where
  pub places : (k : ℕ) (d : Site) → k < length block.sites → (slice_index_or block.sites k d).pc ≡ block.pc + 4 * k
  pub those : (k : ℕ) (d : Site) → k < length block.sites → classes (block.pc + 4 * k) ≡ Some (slice_index_or block.sites k d).class

-- a filter lets an event through where it lets its sort through
abbrev pub IsSortOf : Stretch → What → Sort → Type 0
IsSortOf block what sort =
    (classes : Classes) → HasClasses classes block → (filter : Filter) → passes filter sort ≡ lets_through classes filter what

-- the list of the event stands at the place
pub record IsPlaceOf (block : Stretch) (what : What) (place : ℕ) : Type 0 where
  pub within : place < length (sorts_of block.sites)
  pub same : IsSortOf block what (slice_index_or (sorts_of block.sites) place Init)

-- the slots are those of the event
pub record AreHeard (listed : Listed) (what : What) (slots : List Slot) : Type 0 where
  pub sort : Sort
  pub list : slots ≡ slots_of listed.sets sort
  pub same : IsSortOf listed.block what sort
