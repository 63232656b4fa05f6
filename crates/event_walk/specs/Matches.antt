-- Which events a subscription's filter lets through; `docs/plug-ins.md`, "Filters", says it in words.
use Rattle.std.specs.Prelude.{ℕ, ◌==◌, ◌&&◌, not, nat_le, Bool, false, Option, Some, None, option_map}
use Rattle.std.specs.Int.Bits.{bit_and}
use Rattle.flat_model.specs.declared.events.Class.{Class}
use Rattle.flat_model.specs.declared.events.Class.TheVariants.{Alu, MulDiv, Load, Store, Branch, Jump, Atomic, System, Illegal}
use Rattle.flat_model.specs.declared.events.Event.{Event}
use Rattle.flat_model.specs.declared.events.What.{What}
use Rattle.flat_model.specs.declared.events.What.TheVariants.{Init, Block, Insn, Mem, Sys, SysRet, Exit}
use Rattle.flat_model.specs.declared.plugins.Filter.{Filter}
use Rattle.flat_model.specs.declared.limits.TheConstants.{KIND_INIT, KIND_BLOCK, KIND_INSN, KIND_MEM, KIND_SYS, KIND_SYSRET, KIND_EXIT}
use Rattle.flat_model.specs.Image.{Program, word_at}
use Rattle.flat_model.specs.Instruction.{word_class}

-- the classes of the words of a guest, by their addresses; none where no word is
abbrev pub Classes : Type 0
Classes = ℕ → Option Class

abbrev pub classes_of : Program → Classes
classes_of image pc = option_map word_class (word_at image pc)

-- whether two masks have a common bit
abbrev pub meet : ℕ → ℕ → Bool
meet a b = not (bit_and a b == 0)

-- the bit of a class in a filter
abbrev pub class_bit : Class → ℕ
class_bit Alu = 1
class_bit MulDiv = 2
class_bit Load = 4
class_bit Store = 8
class_bit Branch = 16
class_bit Jump = 32
class_bit Atomic = 64
class_bit System = 128
class_bit Illegal = 256

-- a pc between the filter's bounds, both included
abbrev pub is_within : Filter → ℕ → Bool
is_within filter pc = nat_le filter.lo pc && nat_le pc filter.hi

-- a word whose class has its bit set
abbrev pub has_class : Filter → Option Class → Bool
has_class filter None = false
has_class filter (Some class) = meet filter.classes (class_bit class)

unfoldable pub lets_through : Classes → Filter → What → Bool
lets_through classes filter Init = meet filter.kinds KIND_INIT
lets_through classes filter (Block pc n) = meet filter.kinds KIND_BLOCK && is_within filter pc
lets_through classes filter (Insn pc word) = meet filter.kinds KIND_INSN && (is_within filter pc && has_class filter (classes pc))
lets_through classes filter (Mem pc addr shift signed rw read written) =
    meet filter.kinds KIND_MEM && (is_within filter pc && (has_class filter (classes pc) && meet filter.rw rw))
lets_through classes filter (Sys number a0 a1 a2) = meet filter.kinds KIND_SYS
lets_through classes filter (SysRet number result) = meet filter.kinds KIND_SYSRET
lets_through classes filter (Exit ending) = meet filter.kinds KIND_EXIT

-- whether an event matches a filter
abbrev pub matches : Classes → Filter → Event → Bool
matches classes filter e = lets_through classes filter e.what
