-- The registers that an instruction names are fields of five bits.
use Rattle.std.proofs.Common.{◌≡◌, ℕ, ◌<◌, Some, arith}
use Rattle.flat_model.specs.declared.instructions.Ins.{Ins}
use Rattle.flat_model.specs.declared.instructions.Ins.TheVariants.{Lui, Auipc, Jal, Jalr, Branch, Load, Store, Imm, Reg, Atomic, Fence}
use Rattle.flat_model.specs.declared.instructions.Ins.TheVariants.{FenceI, Ecall, Ebreak}
use Rattle.flat_model.specs.Fields.{field}
use Rattle.flat_model.specs.Instruction.{Table, decoded}
use Rattle.rv_decode.proofs.TableLaw.{decoded-sound}
use Rattle.rv_exec.specs.Going.{HasRegisters}

five_bits : (n word lo : ℕ) → n ≡ field word lo 5 → n < 32
five_bits n word lo is = omega arith

in_table : (word : ℕ) (ins : Ins) → Table word ins → HasRegisters ins
in_table word (Lui rd top) t = five_bits rd word 7 t.1
in_table word (Auipc rd top) t = five_bits rd word 7 t.1
in_table word (Jal rd off) t = five_bits rd word 7 t.1
in_table word (Jalr rd rs1 off) t = (five_bits rd word 7 t.2, five_bits rs1 word 15 t.3)
in_table word (Branch op rs1 rs2 off) t = (five_bits rs1 word 15 t.2, five_bits rs2 word 20 t.3)
in_table word (Load op rd rs1 off) t = (five_bits rd word 7 t.2, five_bits rs1 word 15 t.3)
in_table word (Store op rs1 rs2 off) t = (five_bits rs1 word 15 t.2, five_bits rs2 word 20 t.3)
in_table word (Imm op rd rs1 imm) t = (five_bits rd word 7 t.2, five_bits rs1 word 15 t.3)
in_table word (Reg op rd rs1 rs2) t = (five_bits rd word 7 t.3, five_bits rs1 word 15 t.4, five_bits rs2 word 20 t.5)
in_table word (Atomic op wide aq rl rd rs1 rs2) t = (five_bits rd word 7 t.5, five_bits rs1 word 15 t.6, five_bits rs2 word 20 t.7)
in_table word (Fence fm pred succ rs1 rd) t = tt
in_table word (FenceI imm rs1 rd) t = tt
in_table word Ecall t = tt
in_table word Ebreak t = tt

pub registers_of : (word : ℕ) (ins : Ins) → decoded word ≡ Some ins → HasRegisters ins
registers_of word ins is = in_table word ins (decoded-sound word ins is)
