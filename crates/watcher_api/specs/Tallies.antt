-- What a box of a kind tallies for the events that it heard; `docs/plug-ins.md` lists the rows.
use Rattle.std.specs.Prelude.{ℕ, ◌+◌, ◌*◌, ◌/◌, ◌%◌, ◌^◌, ◌==◌, if◌then◌else◌, Bool, false}
use Rattle.std.specs.Prelude.{List, [], ◌∷◌, take, length, map, filter, filter_map, fold, count_by, sum_by, Option, Some, None}
use Rattle.std.specs.BTreeSet.{insert_key}
use Rattle.std.specs.Ordering.{nat_cmp}
use Rattle.flat_model.specs.declared.events.Class.{Class}
use Rattle.flat_model.specs.declared.events.Class.TheVariants.{Alu, MulDiv, Load, Store, Branch, Jump, Atomic, System, Illegal}
use Rattle.flat_model.specs.declared.events.Event.{Event}
use Rattle.flat_model.specs.declared.events.What.{What}
use Rattle.flat_model.specs.declared.events.What.TheVariants as what
use Rattle.flat_model.specs.declared.limits.TheConstants.{PAGE_BYTES, READS, WRITES}
use Rattle.flat_model.specs.declared.plugins.Kind.{Kind}
use Rattle.flat_model.specs.declared.plugins.KindName.{KindName}
use Rattle.flat_model.specs.declared.plugins.KindName.TheVariants.{Counts, Hot, Mem, Exec, Classes, Pages, Own}
use Rattle.flat_model.specs.declared.plugins.Row.{Row}
use Rattle.flat_model.specs.Instruction.{word_class}
use Rattle.event_walk.specs.Matches.{meet}

-- Rows of one event each.

-- the row of an executed instruction
abbrev pub exec_row_of : ℕ → ℕ → What → Option Row
exec_row_of hart step (what.Insn pc word) = Some (record { key = pc; a = word; b = step; c = hart; d = 0 })
exec_row_of hart step _ = None

abbrev pub exec_row : Event → Option Row
exec_row e = exec_row_of e.hart e.step e.what

-- 1 for a load that sign-extends
abbrev pub sign_bit : Bool → ℕ
sign_bit signed = if signed then 1 else 0

-- the row of an access; its size, sign, direction and hart are packed into c
abbrev pub mem_row_of : ℕ → What → Option Row
mem_row_of hart (what.Mem pc addr shift signed rw read written) =
    Some (record { key = addr; a = read; b = pc; c = shift + 4 * sign_bit signed + 8 * rw + 256 * hart; d = written })
mem_row_of hart _ = None

abbrev pub mem_row : Event → Option Row
mem_row e = mem_row_of e.hart e.what

-- a row for each event that has one, the first 65,536
unfoldable pub traced : (Event → Option Row) → List Event → List Row
traced row heard = take 65536 (filter_map row heard)

-- Rows of the events with one key.

-- the number of a kind of event, which is that of its bit in a filter
abbrev pub kind_number : What → ℕ
kind_number what.Init = 0
kind_number (what.Block pc n) = 1
kind_number (what.Insn pc word) = 2
kind_number (what.Mem pc addr shift signed rw read written) = 3
kind_number (what.Sys number a0 a1 a2) = 4
kind_number (what.SysRet number result) = 5
kind_number (what.Exit ending) = 6

-- the number of a class, which is that of its bit in a filter
abbrev pub class_number : Class → ℕ
class_number Alu = 0
class_number MulDiv = 1
class_number Load = 2
class_number Store = 3
class_number Branch = 4
class_number Jump = 5
class_number Atomic = 6
class_number System = 7
class_number Illegal = 8

-- the key of an event: the pc of a block, the number of a word's class, the number of an access's page
abbrev pub block_key : What → Option ℕ
block_key (what.Block pc n) = Some pc
block_key _ = None

abbrev pub class_key : What → Option ℕ
class_key (what.Insn pc word) = Some (class_number (word_class word))
class_key _ = None

abbrev pub page_key : What → Option ℕ
page_key (what.Mem pc addr shift signed rw read written) = Some (addr / PAGE_BYTES)
page_key _ = None

-- the key under which a kind counts an event; Mem, Exec and Own count none
abbrev pub key_of : KindName → Event → Option ℕ
key_of Counts e = Some (kind_number e.what)
key_of Hot e = block_key e.what
key_of Classes e = class_key e.what
key_of Pages e = page_key e.what
key_of _ e = None

abbrev pub is_key : ℕ → Option ℕ → Bool
is_key key None = false
is_key key (Some other) = other == key

-- the events with a key
abbrev pub with_key : KindName → ℕ → List Event → List Event
with_key name key heard = filter (λ e. is_key key (key_of name e)) heard

-- the words of a block
abbrev pub words : What → ℕ
words (what.Block pc n) = n
words _ = 0

-- whether an access has the direction, which is READS or WRITES
abbrev pub goes : ℕ → What → Bool
goes direction (what.Mem pc addr shift signed rw read written) = meet rw direction
goes direction _ = false

-- the row of the events with a key
abbrev pub row_of : KindName → ℕ → List Event → Row
row_of Hot key events =
    record { key = key; a = length events % 2 ^ 64; b = sum_by (λ e. words e.what) events % 2 ^ 64; c = 0; d = 0 }
row_of Pages key events =
    record {
      key = key;
      a = count_by (λ e. goes READS e.what) events % 2 ^ 64;
      b = count_by (λ e. goes WRITES e.what) events % 2 ^ 64;
      c = 0;
      d = 0;
    }
row_of _ key events = record { key = key; a = length events % 2 ^ 64; b = 0; c = 0; d = 0 }

-- the row of events with a key, where there are any
abbrev pub row_if : KindName → ℕ → List Event → Option Row
row_if name key [] = None
row_if name key (e ∷ events) = Some (row_of name key (e ∷ events))

-- the row of a key; None where it doesn't occur
abbrev pub row_at : KindName → List Event → ℕ → Option Row
row_at name heard key = row_if name key (with_key name key heard)

-- numbers in ascending order, each once
unfoldable pub ascending : List ℕ → List ℕ
ascending numbers = fold (insert_key nat_cmp) [] numbers

-- a row for each of the keys that occurs
unfoldable pub counted : KindName → List ℕ → List Event → List Row
counted name keys heard = filter_map (row_at name heard) keys

-- a row for each key that occurs, ascending
unfoldable pub tallied : KindName → List Event → List Row
tallied name heard = map (λ key. row_of name key (with_key name key heard)) (ascending (filter_map (key_of name) heard))

-- the rows of a kind
abbrev pub rows_named : KindName → List Event → List Row
rows_named Counts heard = counted Counts (0 ∷ 1 ∷ 2 ∷ 3 ∷ 4 ∷ 5 ∷ 6 ∷ []) heard
rows_named Hot heard = tallied Hot heard
rows_named Mem heard = traced mem_row heard
rows_named Exec heard = traced exec_row heard
rows_named Classes heard = counted Classes (0 ∷ 1 ∷ 2 ∷ 3 ∷ 4 ∷ 5 ∷ 6 ∷ 7 ∷ 8 ∷ []) heard
rows_named Pages heard = tallied Pages heard
rows_named (Own number) heard = []

unfoldable pub rows : Kind → List Event → List Row
rows kind heard = rows_named kind.name heard
