-- The slots of a sort of event: which subscriptions hear it, set by set and by their index.
use Rattle.std.specs.Prelude.{◌+◌, ℕ, if◌then◌else◌, List, [], ◌∷◌, ◌++◌}
use Rattle.flat_model.specs.declared.plugins.SetSpec.{SetSpec}
use Rattle.flat_model.specs.declared.plugins.Sub.{Sub}
use Rattle.instr_lists.specs.declared.sorts.Sort.{Sort}
use Rattle.instr_lists.specs.declared.slots.Slot.{Slot}
use Rattle.instr_lists.specs.Sorts.{passes}

-- of the set at a place, from the subscription with index i on
unfoldable pub slots_in : ℕ → ℕ → Sort → List Sub → List Slot
slots_in k i sort [] = []
slots_in k i sort (s ∷ subs) =
    if passes s.filter sort then record { set = k; sub = i } ∷ slots_in k (i + 1) sort subs else slots_in k (i + 1) sort subs

-- of the sets from a place on
unfoldable pub slots_from : ℕ → Sort → List (ℕ × SetSpec) → List Slot
slots_from k sort [] = []
slots_from k sort (s ∷ sets) = slots_in k 0 sort s.1.subs ++ slots_from (k + 1) sort sets

abbrev pub slots_of : List (ℕ × SetSpec) → Sort → List Slot
slots_of sets sort = slots_from 0 sort sets
