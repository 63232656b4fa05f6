-- What an instruction does to the hart that carries it out, and what it asks of what the harts share (RISC-V
-- Unprivileged ISA 20191213, chapters RV32I, RV64I, Zifencei, M and A).
use Rattle.std.specs.Prelude.{ℕ, ◌-◌, ◌*◌, ◌%◌, ◌==◌, Bool, true, false, if◌then◌else◌, List, slice_index}
use Rattle.std.specs.Prelude.{slice_set, ℤ, Option, Some, None}
use Rattle.std.specs.Option.{option_map_or}
use Rattle.flat_model.specs.declared.instructions.Ins.{Ins}
use Rattle.flat_model.specs.declared.instructions.Ins.TheVariants.{Lui, Auipc, Jal, Jalr, Branch, Load, Store, Imm, Reg, Atomic, Fence}
use Rattle.flat_model.specs.declared.instructions.Ins.TheVariants.{FenceI, Ecall, Ebreak}
use Rattle.flat_model.specs.declared.events.FaultKind.TheVariants.{MisalignedJump, Break, Fetch, Illegal}
use Rattle.flat_model.specs.declared.effects.Done.{Done}
use Rattle.flat_model.specs.declared.effects.Done.TheVariants.{Goes, Fails}
use Rattle.flat_model.specs.declared.effects.Effect.{Effect}
use Rattle.flat_model.specs.declared.effects.Effect.TheVariants.{Does, Loads, Stores, Operates, Calls}
use Rattle.flat_model.specs.Instruction.{decoded}
use Rattle.flat_model.specs.Arithmetic.{plus, plus_signed, word_extended, imm_result, reg_result, branch_taken}
use Rattle.flat_model.specs.World.{HartState}

-- x0 reads as 0
abbrev pub register : List ℕ → ℕ → ℕ
register x n = if n == 0 then 0 else slice_index x n

-- x0 isn't written
abbrev pub with_register : List ℕ → ℕ → ℕ → List ℕ
with_register x rd value = if rd == 0 then x else slice_set x rd value

-- the address of the next instruction
abbrev pub following : HartState → ℕ
following hart = plus hart.pc 4

-- goes on behind the instruction, with the value in rd
abbrev pub gives : HartState → ℕ → ℕ → Done
gives hart rd value = Goes rd value (following hart)

-- goes on behind the instruction
abbrev pub passes : HartState → Done
passes hart = gives hart 0 0

-- goes on at the target with the value in rd; a target that isn't a multiple of 4 is a fault
abbrev pub jumps : ℕ → ℕ → ℕ → Done
jumps rd value target = if target % 4 == 0 then Goes rd value target else Fails MisalignedJump

-- the target of JALR, with bit 0 cleared
abbrev pub without_bit_0 : ℕ → ℕ
without_bit_0 target = target - target % 2

-- a branch that isn't taken never faults
abbrev pub branches : HartState → Bool → ℤ → Done
branches hart taken off = if taken then jumps 0 0 (plus_signed hart.pc off) else passes hart

-- the address of an access: a register and a signed offset
abbrev pub address : HartState → ℕ → ℤ → ℕ
address hart rs1 off = plus_signed (register hart.x rs1) off

abbrev pub effect_of : HartState → Ins → Effect
effect_of hart (Lui rd top) = Does (gives hart rd (word_extended (top * 4096)))
effect_of hart (Auipc rd top) = Does (gives hart rd (plus hart.pc (word_extended (top * 4096))))
effect_of hart (Jal rd off) = Does (jumps rd (following hart) (plus_signed hart.pc off))
effect_of hart (Jalr rd rs1 off) = Does (jumps rd (following hart) (without_bit_0 (address hart rs1 off)))
effect_of hart (Branch op rs1 rs2 off) = Does (branches hart (branch_taken op (register hart.x rs1) (register hart.x rs2)) off)
effect_of hart (Load op rd rs1 off) = Loads op rd (address hart rs1 off)
effect_of hart (Store op rs1 rs2 off) = Stores op (address hart rs1 off) (register hart.x rs2)
effect_of hart (Imm op rd rs1 imm) = Does (gives hart rd (imm_result op (register hart.x rs1) imm))
effect_of hart (Reg op rd rs1 rs2) = Does (gives hart rd (reg_result op (register hart.x rs1) (register hart.x rs2)))
effect_of hart (Atomic op wide aq rl rd rs1 rs2) = Operates op wide rd (register hart.x rs1) (register hart.x rs2)
effect_of hart (Fence fm pred succ rs1 rd) = Does (passes hart)
effect_of hart (FenceI imm rs1 rd) = Does (passes hart)
effect_of hart Ecall = Calls
effect_of hart Ebreak = Does (Fails Break)

-- the effect of the word at pc: an absent word and one outside the table are faults
abbrev pub effect_of_word : HartState → Option ℕ → Effect
effect_of_word hart None = Does (Fails Fetch)
effect_of_word hart (Some word) = option_map_or (effect_of hart) (decoded word) (Does (Fails Illegal))

-- loads, stores, the instructions of A and ECALL touch what the harts share
abbrev pub touches_shared : Ins → Bool
touches_shared (Load op rd rs1 off) = true
touches_shared (Store op rs1 rs2 off) = true
touches_shared (Atomic op wide aq rl rd rs1 rs2) = true
touches_shared Ecall = true
touches_shared _ = false

-- whether the word at pc is one of them
abbrev pub word_touches_shared : Option ℕ → Bool
word_touches_shared None = false
word_touches_shared (Some word) = option_map_or touches_shared (decoded word) false
