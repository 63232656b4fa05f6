-- The rows of the instruction listings, operation by operation, and the operation that stands in a row:
-- RISC-V Unprivileged ISA 20191213, chapter 24, RV32I, RV64I, RV32M, RV64M, RV32A and RV64A.
use Rattle.std.specs.Prelude.{◌≡◌, ℕ, ℤ, pos, Bool, true, false, ◌==◌, if◌then◌else◌, Option, Some, None}
use Rattle.flat_model.specs.declared.instructions.BranchOp.{BranchOp}
use Rattle.flat_model.specs.declared.instructions.BranchOp.TheVariants.{Beq, Bne, Blt, Bge, Bltu, Bgeu}
use Rattle.flat_model.specs.declared.instructions.LoadOp.{LoadOp}
use Rattle.flat_model.specs.declared.instructions.LoadOp.TheVariants.{Lb, Lh, Lw, Ld, Lbu, Lhu, Lwu}
use Rattle.flat_model.specs.declared.instructions.StoreOp.{StoreOp}
use Rattle.flat_model.specs.declared.instructions.StoreOp.TheVariants.{Sb, Sh, Sw, Sd}
use Rattle.flat_model.specs.declared.instructions.ImmOp.{ImmOp}
use Rattle.flat_model.specs.declared.instructions.ImmOp.TheVariants.{Addi, Slti, Sltiu, Xori, Ori, Andi, Slli, Srli, Srai, Addiw, Slliw}
use Rattle.flat_model.specs.declared.instructions.ImmOp.TheVariants.{Srliw, Sraiw}
use Rattle.flat_model.specs.declared.instructions.RegOp.{RegOp}
use Rattle.flat_model.specs.declared.instructions.RegOp.TheVariants.{Add, Sub, Sll, Slt, Sltu, Xor, Srl, Sra, Or, And, Mul, Mulh}
use Rattle.flat_model.specs.declared.instructions.RegOp.TheVariants.{Mulhsu, Mulhu, Div, Divu, Rem, Remu, Addw, Subw, Sllw, Srlw, Sraw}
use Rattle.flat_model.specs.declared.instructions.RegOp.TheVariants.{Mulw, Divw, Divuw, Remw, Remuw}
use Rattle.flat_model.specs.declared.instructions.AtomicOp.{AtomicOp}
use Rattle.flat_model.specs.declared.instructions.AtomicOp.TheVariants.{Lr, Sc, Swap, Add as AmoAdd, Xor as AmoXor, And as AmoAnd}
use Rattle.flat_model.specs.declared.instructions.AtomicOp.TheVariants.{Or as AmoOr, Min, Max, Minu, Maxu}
use Rattle.flat_model.specs.Fields.{field, i_immediate}

-- funct3 of each branch
abbrev pub branch_funct3 : BranchOp → ℕ
branch_funct3 Beq = 0
branch_funct3 Bne = 1
branch_funct3 Blt = 4
branch_funct3 Bge = 5
branch_funct3 Bltu = 6
branch_funct3 Bgeu = 7

-- funct3 of each load
abbrev pub load_funct3 : LoadOp → ℕ
load_funct3 Lb = 0
load_funct3 Lh = 1
load_funct3 Lw = 2
load_funct3 Ld = 3
load_funct3 Lbu = 4
load_funct3 Lhu = 5
load_funct3 Lwu = 6

-- funct3 of each store
abbrev pub store_funct3 : StoreOp → ℕ
store_funct3 Sb = 0
store_funct3 Sh = 1
store_funct3 Sw = 2
store_funct3 Sd = 3

-- a row of OP-IMM (0x13) or OP-IMM-32 (0x1b)
pub record ImmRow : Type 0 where
  pub opcode : ℕ
  pub funct3 : ℕ

abbrev pub imm_at : ℕ → ℕ → ImmRow
imm_at opcode funct3 = record { opcode = opcode; funct3 = funct3 }

abbrev pub imm_row : ImmOp → ImmRow
imm_row Addi = imm_at 0x13 0
imm_row Slli = imm_at 0x13 1
imm_row Slti = imm_at 0x13 2
imm_row Sltiu = imm_at 0x13 3
imm_row Xori = imm_at 0x13 4
imm_row Srli = imm_at 0x13 5
imm_row Srai = imm_at 0x13 5
imm_row Ori = imm_at 0x13 6
imm_row Andi = imm_at 0x13 7
imm_row Addiw = imm_at 0x1b 0
imm_row Slliw = imm_at 0x1b 1
imm_row Srliw = imm_at 0x1b 5
imm_row Sraiw = imm_at 0x1b 5

-- what stands in bits 31:20 of a shift by a number: six bits of amount below bits 31:26
pub record IsShift (word high : ℕ) (imm : ℤ) : Type 0 where
  pub high_is : field word 26 6 ≡ high
  pub amount_is : imm ≡ pos (field word 20 6)

-- and in one of the low 32 bits: five bits of amount below funct7
pub record IsWordShift (word high : ℕ) (imm : ℤ) : Type 0 where
  pub high_is : field word 25 7 ≡ high
  pub amount_is : imm ≡ pos (field word 20 5)

-- bits 31:20 of each operation: an immediate of form I, or a shift's
abbrev pub IsImmediate : ImmOp → ℕ → ℤ → Type 0
IsImmediate Slli word imm = IsShift word 0x00 imm
IsImmediate Srli word imm = IsShift word 0x00 imm
IsImmediate Srai word imm = IsShift word 0x10 imm
IsImmediate Slliw word imm = IsWordShift word 0x00 imm
IsImmediate Srliw word imm = IsWordShift word 0x00 imm
IsImmediate Sraiw word imm = IsWordShift word 0x20 imm
IsImmediate _ word imm = imm ≡ i_immediate word

-- a row of OP (0x33) or OP-32 (0x3b)
pub record RegRow : Type 0 where
  pub opcode : ℕ
  pub funct3 : ℕ
  pub funct7 : ℕ

abbrev pub reg_at : ℕ → ℕ → ℕ → RegRow
reg_at opcode funct3 funct7 = record { opcode = opcode; funct3 = funct3; funct7 = funct7 }

abbrev pub reg_row : RegOp → RegRow
reg_row Add = reg_at 0x33 0 0x00
reg_row Sub = reg_at 0x33 0 0x20
reg_row Sll = reg_at 0x33 1 0x00
reg_row Slt = reg_at 0x33 2 0x00
reg_row Sltu = reg_at 0x33 3 0x00
reg_row Xor = reg_at 0x33 4 0x00
reg_row Srl = reg_at 0x33 5 0x00
reg_row Sra = reg_at 0x33 5 0x20
reg_row Or = reg_at 0x33 6 0x00
reg_row And = reg_at 0x33 7 0x00
reg_row Mul = reg_at 0x33 0 0x01
reg_row Mulh = reg_at 0x33 1 0x01
reg_row Mulhsu = reg_at 0x33 2 0x01
reg_row Mulhu = reg_at 0x33 3 0x01
reg_row Div = reg_at 0x33 4 0x01
reg_row Divu = reg_at 0x33 5 0x01
reg_row Rem = reg_at 0x33 6 0x01
reg_row Remu = reg_at 0x33 7 0x01
reg_row Addw = reg_at 0x3b 0 0x00
reg_row Subw = reg_at 0x3b 0 0x20
reg_row Sllw = reg_at 0x3b 1 0x00
reg_row Srlw = reg_at 0x3b 5 0x00
reg_row Sraw = reg_at 0x3b 5 0x20
reg_row Mulw = reg_at 0x3b 0 0x01
reg_row Divw = reg_at 0x3b 4 0x01
reg_row Divuw = reg_at 0x3b 5 0x01
reg_row Remw = reg_at 0x3b 6 0x01
reg_row Remuw = reg_at 0x3b 7 0x01

-- bits 31:27 of each operation of AMO
abbrev pub atomic_funct5 : AtomicOp → ℕ
atomic_funct5 AmoAdd = 0x00
atomic_funct5 Swap = 0x01
atomic_funct5 Lr = 0x02
atomic_funct5 Sc = 0x03
atomic_funct5 AmoXor = 0x04
atomic_funct5 AmoOr = 0x08
atomic_funct5 AmoAnd = 0x0c
atomic_funct5 Min = 0x10
atomic_funct5 Max = 0x14
atomic_funct5 Minu = 0x18
atomic_funct5 Maxu = 0x1c

-- LR has 0 for rs2
abbrev pub MayHaveSource : AtomicOp → ℕ → Type 0
MayHaveSource Lr rs2 = rs2 ≡ 0
MayHaveSource _ rs2 = Unit {0}

-- funct3 of AMO: 2 for words, 3 for doublewords
abbrev pub width_funct3 : Bool → ℕ
width_funct3 wide = if wide then 3 else 2

-- The other way round: the operation that stands in a row, or none.

-- of BRANCH, by funct3
abbrev pub branch_op : ℕ → Option BranchOp
branch_op funct3 =
    if funct3 == 0 then Some Beq else
    if funct3 == 1 then Some Bne else
    if funct3 == 4 then Some Blt else
    if funct3 == 5 then Some Bge else
    if funct3 == 6 then Some Bltu else
    if funct3 == 7 then Some Bgeu else None

-- of LOAD, by funct3
abbrev pub load_op : ℕ → Option LoadOp
load_op funct3 =
    if funct3 == 0 then Some Lb else
    if funct3 == 1 then Some Lh else
    if funct3 == 2 then Some Lw else
    if funct3 == 3 then Some Ld else
    if funct3 == 4 then Some Lbu else
    if funct3 == 5 then Some Lhu else
    if funct3 == 6 then Some Lwu else None

-- of STORE, by funct3
abbrev pub store_op : ℕ → Option StoreOp
store_op funct3 =
    if funct3 == 0 then Some Sb else
    if funct3 == 1 then Some Sh else
    if funct3 == 2 then Some Sw else
    if funct3 == 3 then Some Sd else None

-- of OP-IMM, by funct3 and bits 31:26
abbrev pub imm_op : ℕ → ℕ → Option ImmOp
imm_op funct3 high =
    if funct3 == 0 then Some Addi else
    if funct3 == 1 then (if high == 0x00 then Some Slli else None) else
    if funct3 == 2 then Some Slti else
    if funct3 == 3 then Some Sltiu else
    if funct3 == 4 then Some Xori else
    if funct3 == 5 then (if high == 0x00 then Some Srli else if high == 0x10 then Some Srai else None) else
    if funct3 == 6 then Some Ori else
    if funct3 == 7 then Some Andi else None

-- of OP-IMM-32, by funct3 and funct7
abbrev pub word_imm_op : ℕ → ℕ → Option ImmOp
word_imm_op funct3 funct7 =
    if funct3 == 0 then Some Addiw else
    if funct3 == 1 then (if funct7 == 0x00 then Some Slliw else None) else
    if funct3 == 5 then (if funct7 == 0x00 then Some Srliw else if funct7 == 0x20 then Some Sraiw else None) else
    None

-- what an operation of the two reads in bits 31:20
abbrev pub immediate_of : ImmOp → ℕ → ℤ
immediate_of Slli word = pos (field word 20 6)
immediate_of Srli word = pos (field word 20 6)
immediate_of Srai word = pos (field word 20 6)
immediate_of Slliw word = pos (field word 20 5)
immediate_of Srliw word = pos (field word 20 5)
immediate_of Sraiw word = pos (field word 20 5)
immediate_of _ word = i_immediate word

-- of OP with funct7 0, by funct3
abbrev pub base_op : ℕ → Option RegOp
base_op funct3 =
    if funct3 == 0 then Some Add else
    if funct3 == 1 then Some Sll else
    if funct3 == 2 then Some Slt else
    if funct3 == 3 then Some Sltu else
    if funct3 == 4 then Some Xor else
    if funct3 == 5 then Some Srl else
    if funct3 == 6 then Some Or else
    if funct3 == 7 then Some And else None

-- of OP with funct7 0x20, by funct3
abbrev pub other_op : ℕ → Option RegOp
other_op funct3 = if funct3 == 0 then Some Sub else if funct3 == 5 then Some Sra else None

-- of OP with funct7 1, by funct3
abbrev pub muldiv_op : ℕ → Option RegOp
muldiv_op funct3 =
    if funct3 == 0 then Some Mul else
    if funct3 == 1 then Some Mulh else
    if funct3 == 2 then Some Mulhsu else
    if funct3 == 3 then Some Mulhu else
    if funct3 == 4 then Some Div else
    if funct3 == 5 then Some Divu else
    if funct3 == 6 then Some Rem else
    if funct3 == 7 then Some Remu else None

-- of OP, by funct7 and funct3
abbrev pub reg_op : ℕ → ℕ → Option RegOp
reg_op funct7 funct3 =
    if funct7 == 0x00 then base_op funct3 else
    if funct7 == 0x01 then muldiv_op funct3 else
    if funct7 == 0x20 then other_op funct3 else None

-- of OP-32 with funct7 0, by funct3
abbrev pub word_base_op : ℕ → Option RegOp
word_base_op funct3 =
    if funct3 == 0 then Some Addw else if funct3 == 1 then Some Sllw else if funct3 == 5 then Some Srlw else None

-- of OP-32 with funct7 0x20, by funct3
abbrev pub word_other_op : ℕ → Option RegOp
word_other_op funct3 = if funct3 == 0 then Some Subw else if funct3 == 5 then Some Sraw else None

-- of OP-32 with funct7 1, by funct3
abbrev pub word_muldiv_op : ℕ → Option RegOp
word_muldiv_op funct3 =
    if funct3 == 0 then Some Mulw else
    if funct3 == 4 then Some Divw else
    if funct3 == 5 then Some Divuw else
    if funct3 == 6 then Some Remw else
    if funct3 == 7 then Some Remuw else None

-- of OP-32, by funct7 and funct3
abbrev pub word_reg_op : ℕ → ℕ → Option RegOp
word_reg_op funct7 funct3 =
    if funct7 == 0x00 then word_base_op funct3 else
    if funct7 == 0x01 then word_muldiv_op funct3 else
    if funct7 == 0x20 then word_other_op funct3 else None

-- of AMO, by bits 31:27 and rs2
abbrev pub atomic_op : ℕ → ℕ → Option AtomicOp
atomic_op funct5 rs2 =
    if funct5 == 0x00 then Some AmoAdd else
    if funct5 == 0x01 then Some Swap else
    if funct5 == 0x02 then (if rs2 == 0 then Some Lr else None) else
    if funct5 == 0x03 then Some Sc else
    if funct5 == 0x04 then Some AmoXor else
    if funct5 == 0x08 then Some AmoOr else
    if funct5 == 0x0c then Some AmoAnd else
    if funct5 == 0x10 then Some Min else
    if funct5 == 0x14 then Some Max else
    if funct5 == 0x18 then Some Minu else
    if funct5 == 0x1c then Some Maxu else None

-- the width of AMO, by funct3: true for doublewords
abbrev pub wide_at : ℕ → Option Bool
wide_at funct3 = if funct3 == 2 then Some false else if funct3 == 3 then Some true else None
