-- Blocks whose events need not be stored: those that nothing hears, and those at which all that is heard is an
-- unconditional add, where the block starts or at a word.
use Rattle.std.specs.Prelude.{◌≡◌, ℕ, zero, suc, Bool, true, false, not, ◌&&◌, ◌||◌, List, [], ◌∷◌, ◌++◌, filter, flat_map, map, take, All}
use Rattle.std.specs.List.{list_all}
use Rattle.flat_model.specs.declared.events.Event.{Event}
use Rattle.flat_model.specs.declared.events.What.{What}
use Rattle.flat_model.specs.declared.events.What.TheVariants as what
use Rattle.flat_model.specs.declared.plugins.Act.{Act}
use Rattle.flat_model.specs.declared.plugins.Act.TheVariants.{Call, Inline, Cond}
use Rattle.flat_model.specs.declared.plugins.Op.{Op}
use Rattle.flat_model.specs.declared.plugins.Op.TheVariants.{Add, Store}
use Rattle.flat_model.specs.declared.plugins.SetSpec.{SetSpec}
use Rattle.flat_model.specs.declared.plugins.Sub.{Sub}
use Rattle.block_finder.specs.declared.blocks.Site.{Site}
use Rattle.block_finder.specs.Block.{Stretch}
use Rattle.instr_lists.specs.declared.sorts.Sort.{Sort}
use Rattle.instr_lists.specs.declared.sorts.Sort.TheVariants.{Block, Insn}
use Rattle.instr_lists.specs.declared.slots.Slot.{Slot}
use Rattle.instr_lists.specs.Sorts.{passes, sorts_of}
use Rattle.instr_lists.specs.Slots.{slots_of}
use Rattle.instr_lists.specs.Delivery.{act_at}

-- an act that adds to an entry, whatever the event and the entries are
abbrev pub is_addition : Op → Bool
is_addition Add = true
is_addition Store = false

abbrev pub is_add : Act → Bool
is_add (Inline op entry imm) = is_addition op
is_add (Call kind) = false
is_add (Cond cond entry imm then_store kind) = false

-- an event that says that a block starts or that a word is executed
abbrev pub is_code : What → Bool
is_code (what.Block pc n) = true
is_code (what.Insn pc word) = true
is_code _ = false

-- the same of a sort of event
abbrev pub is_code_sort : Sort → Bool
is_code_sort (Block pc) = true
is_code_sort (Insn pc class) = true
is_code_sort _ = false

-- a subscription that doesn't hear events of a sort, and one that only adds at events of the code
abbrev pub is_deaf : Sort → Sub → Bool
is_deaf sort sub = not (passes sub.filter sort)

abbrev pub only_adds : Sort → Sub → Bool
only_adds sort sub = not (passes sub.filter sort) || (is_code_sort sort && is_add sub.act)

-- whether all subscriptions of some sets are so at all of some sorts
abbrev pub at_all : (Sort → Sub → Bool) → List (ℕ × SetSpec) → List Sort → Bool
at_all test sets sorts = list_all (λ sort. list_all (λ s. list_all (test sort) s.1.subs) sets) sorts

-- nothing hears an event that steps in a block can give
abbrev pub is_silent : Stretch → List (ℕ × SetSpec) → Bool
is_silent block sets = at_all is_deaf sets (sorts_of block.sites)

-- all that is heard of such events is heard where the block starts or at a word, and adds
abbrev pub adds_alone : Stretch → List (ℕ × SetSpec) → Bool
adds_alone block sets = at_all only_adds sets (sorts_of block.sites)

-- the acts of sets, and slots of them that all add
abbrev pub acts_each : List (ℕ × SetSpec) → List (List Act)
acts_each sets = map (λ s. map (λ (sub : Sub). sub.act) s.1.subs) sets

abbrev pub AllAdd : List (List Act) → List Slot → Type 0
AllAdd acts slots = All (λ slot. is_add (act_at acts slot) ≡ true) slots

-- the slots of a block that is gone through, in the order of its events: where it starts, and at each word
abbrev pub word_slots : List (ℕ × SetSpec) → Site → List Slot
word_slots sets s = slots_of sets (Insn s.pc s.class)

abbrev pub code_slots : List (ℕ × SetSpec) → List Site → List Slot
code_slots sets [] = []
code_slots sets (s ∷ sites) = slots_of sets (Block s.pc) ++ flat_map (word_slots sets) (s ∷ sites)

-- the Insn events of the first words of a block
abbrev pub word_told : Site → What
word_told s = what.Insn s.pc s.word

abbrev pub words_of : Stretch → ℕ → List What
words_of block words = map word_told (take words block.sites)

-- the Block and Insn events that the first words of a block give, gone through from its start
abbrev pub code_of : Stretch → ℕ → List What
code_of block zero = []
code_of block (suc k) = what.Block block.pc block.n ∷ words_of block (suc k)

-- what some events tell of the code
abbrev pub code_in : List Event → List What
code_in es = filter is_code (map (λ e. e.what) es)
