-- The class of an instruction is that of its opcode and funct7.
use Rattle.std.proofs.Common.{◌≡◌, ℕ, ap, ◌∙◌, sym, refl}
use Rattle.flat_model.specs.declared.instructions.Ins.{Ins}
use Rattle.flat_model.specs.declared.instructions.Ins.TheVariants.{Lui, Auipc, Jal, Jalr, Branch, Load, Store, Imm, Reg, Atomic, Fence}
use Rattle.flat_model.specs.declared.instructions.Ins.TheVariants.{FenceI, Ecall, Ebreak}
use Rattle.flat_model.specs.declared.instructions.ImmOp.{ImmOp}
use Rattle.flat_model.specs.declared.instructions.ImmOp.TheVariants.{Addi, Slti, Sltiu, Xori, Ori, Andi, Slli, Srli, Srai, Addiw, Slliw}
use Rattle.flat_model.specs.declared.instructions.ImmOp.TheVariants.{Srliw, Sraiw}
use Rattle.flat_model.specs.declared.instructions.RegOp.{RegOp}
use Rattle.flat_model.specs.declared.instructions.RegOp.TheVariants.{Add, Sub, Sll, Slt, Sltu, Xor, Srl, Sra, Or, And, Mul, Mulh, Mulhsu}
use Rattle.flat_model.specs.declared.instructions.RegOp.TheVariants.{Mulhu, Div, Divu, Rem, Remu, Addw, Subw, Sllw, Srlw, Sraw, Mulw}
use Rattle.flat_model.specs.declared.instructions.RegOp.TheVariants.{Divw, Divuw, Remw, Remuw}
use Rattle.flat_model.specs.declared.events.Class.TheVariants.{Alu}
use Rattle.flat_model.specs.Rows.{imm_row, reg_row}
use Rattle.flat_model.specs.Instruction.{Table, opcode, funct7, class_of, class_of_op, class_by}

imm_row-class : (op : ImmOp) (funct7 : ℕ) → Alu ≡ class_by (imm_row op).opcode funct7
imm_row-class Addi funct7 = refl
imm_row-class Slti funct7 = refl
imm_row-class Sltiu funct7 = refl
imm_row-class Xori funct7 = refl
imm_row-class Ori funct7 = refl
imm_row-class Andi funct7 = refl
imm_row-class Slli funct7 = refl
imm_row-class Srli funct7 = refl
imm_row-class Srai funct7 = refl
imm_row-class Addiw funct7 = refl
imm_row-class Slliw funct7 = refl
imm_row-class Srliw funct7 = refl
imm_row-class Sraiw funct7 = refl

reg_row-class : (op : RegOp) → class_of_op op ≡ class_by (reg_row op).opcode (reg_row op).funct7
reg_row-class Add = refl
reg_row-class Sub = refl
reg_row-class Sll = refl
reg_row-class Slt = refl
reg_row-class Sltu = refl
reg_row-class Xor = refl
reg_row-class Srl = refl
reg_row-class Sra = refl
reg_row-class Or = refl
reg_row-class And = refl
reg_row-class Mul = refl
reg_row-class Mulh = refl
reg_row-class Mulhsu = refl
reg_row-class Mulhu = refl
reg_row-class Div = refl
reg_row-class Divu = refl
reg_row-class Rem = refl
reg_row-class Remu = refl
reg_row-class Addw = refl
reg_row-class Subw = refl
reg_row-class Sllw = refl
reg_row-class Srlw = refl
reg_row-class Sraw = refl
reg_row-class Mulw = refl
reg_row-class Divw = refl
reg_row-class Divuw = refl
reg_row-class Remw = refl
reg_row-class Remuw = refl

pub class_of-table : (word : ℕ) (i : Ins) → Table word i → class_of i ≡ class_by (opcode word) (funct7 word)
class_of-table word (Lui rd top) t = ap (λ n. class_by n (funct7 word)) (sym t.0)
class_of-table word (Auipc rd top) t = ap (λ n. class_by n (funct7 word)) (sym t.0)
class_of-table word (Jal rd off) t = ap (λ n. class_by n (funct7 word)) (sym t.0)
class_of-table word (Jalr rd rs1 off) t = ap (λ n. class_by n (funct7 word)) (sym t.0)
class_of-table word (Branch op rs1 rs2 off) t = ap (λ n. class_by n (funct7 word)) (sym t.0)
class_of-table word (Load op rd rs1 off) t = ap (λ n. class_by n (funct7 word)) (sym t.0)
class_of-table word (Store op rs1 rs2 off) t = ap (λ n. class_by n (funct7 word)) (sym t.0)
class_of-table word (Imm op rd rs1 imm) t =
    imm_row-class op (funct7 word) ∙ ap (λ n. class_by n (funct7 word)) (sym t.0)
class_of-table word (Reg op rd rs1 rs2) t =
    reg_row-class op
    ∙ (ap (λ n. class_by n (reg_row op).funct7) (sym t.0) ∙ ap (class_by (opcode word)) (sym t.2))
class_of-table word (Atomic op wide aq rl rd rs1 rs2) t = ap (λ n. class_by n (funct7 word)) (sym t.0)
class_of-table word (Fence fm pred succ rs1 rd) t = ap (λ n. class_by n (funct7 word)) (sym t.0)
class_of-table word (FenceI imm rs1 rd) t = ap (λ n. class_by n (funct7 word)) (sym t.0)
class_of-table word Ecall t = ap (λ w. class_by (opcode w) (funct7 w)) (sym t)
class_of-table word Ebreak t = ap (λ w. class_by (opcode w) (funct7 w)) (sym t)
