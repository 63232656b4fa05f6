-- The instruction table of RV64IMA: which word is which instruction, with its fields in the manual's forms.
-- RISC-V Unprivileged ISA 20191213, chapter 24, with RV32I, RV64I, Zifencei, M and A.
use Rattle.std.specs.Prelude.{◌↔◌, ◌≡◌, ◌&&◌, ◌||◌, ◌^◌, ◌<◌, ◌%◌, ◌≤ℤ◌, ℕ, ℤ, pos, neg_ℤ}
use Rattle.std.specs.Prelude.{nat_abs, Bool, true, false, ◌==◌}
use Rattle.std.specs.Prelude.{if◌then◌else◌, Option, Some, None, option_map, option_and_then}
use Rattle.std.specs.Option.{option_map_or}
use Rattle.flat_model.specs.declared.instructions.Ins.{Ins}
use Rattle.flat_model.specs.declared.instructions.Ins.TheVariants.{Lui, Auipc, Jal, Jalr, Branch, Load, Store, Imm, Reg, Atomic, Fence}
use Rattle.flat_model.specs.declared.instructions.Ins.TheVariants.{FenceI, Ecall, Ebreak}
use Rattle.flat_model.specs.declared.instructions.ImmOp.{ImmOp}
use Rattle.flat_model.specs.declared.instructions.ImmOp.TheVariants.{Slli, Srli, Srai, Slliw, Srliw, Sraiw}
use Rattle.flat_model.specs.declared.instructions.RegOp.{RegOp}
use Rattle.flat_model.specs.declared.instructions.RegOp.TheVariants.{Mul, Mulh, Mulhsu, Mulhu, Div, Divu, Rem, Remu, Mulw, Divw, Divuw}
use Rattle.flat_model.specs.declared.instructions.RegOp.TheVariants.{Remw, Remuw}
use Rattle.flat_model.specs.declared.instructions.AtomicOp.{AtomicOp}
use Rattle.flat_model.specs.declared.events.Class.{Class}
use Rattle.flat_model.specs.declared.events.Class.TheVariants.{Alu, MulDiv, Load as LoadClass, Store as StoreClass}
use Rattle.flat_model.specs.declared.events.Class.TheVariants.{Branch as BranchClass, Jump, Atomic as AtomicClass, System, Illegal}
use Rattle.flat_model.specs.Rows.{branch_funct3, load_funct3, store_funct3, imm_row, IsImmediate, reg_row, atomic_funct5, MayHaveSource}
use Rattle.flat_model.specs.Rows.{width_funct3, branch_op, load_op, store_op, imm_op, word_imm_op, immediate_of, reg_op, word_reg_op}
use Rattle.flat_model.specs.Rows.{atomic_op, wide_at}
pub use Rattle.flat_model.specs.Fields.{field, flag, signed_at, opcode, rd_of, funct3, rs1_of, rs2_of, funct7, funct5, i_immediate}
pub use Rattle.flat_model.specs.Fields.{s_immediate, b_immediate, u_top, j_immediate}

-- the word is this instruction
abbrev pub Table : ℕ → Ins → Type 0
Table word (Lui rd top) = (opcode word ≡ 0x37) × (rd ≡ rd_of word) × (top ≡ u_top word)
Table word (Auipc rd top) = (opcode word ≡ 0x17) × (rd ≡ rd_of word) × (top ≡ u_top word)
Table word (Jal rd off) = (opcode word ≡ 0x6f) × (rd ≡ rd_of word) × (off ≡ j_immediate word)
Table word (Jalr rd rs1 off) =
    (opcode word ≡ 0x67) × (funct3 word ≡ 0)
    × (rd ≡ rd_of word) × (rs1 ≡ rs1_of word) × (off ≡ i_immediate word)
Table word (Branch op rs1 rs2 off) =
    (opcode word ≡ 0x63) × (funct3 word ≡ branch_funct3 op)
    × (rs1 ≡ rs1_of word) × (rs2 ≡ rs2_of word) × (off ≡ b_immediate word)
Table word (Load op rd rs1 off) =
    (opcode word ≡ 0x03) × (funct3 word ≡ load_funct3 op)
    × (rd ≡ rd_of word) × (rs1 ≡ rs1_of word) × (off ≡ i_immediate word)
Table word (Store op rs1 rs2 off) =
    (opcode word ≡ 0x23) × (funct3 word ≡ store_funct3 op)
    × (rs1 ≡ rs1_of word) × (rs2 ≡ rs2_of word) × (off ≡ s_immediate word)
Table word (Imm op rd rs1 imm) =
    (opcode word ≡ (imm_row op).opcode) × (funct3 word ≡ (imm_row op).funct3)
    × (rd ≡ rd_of word) × (rs1 ≡ rs1_of word) × IsImmediate op word imm
Table word (Reg op rd rs1 rs2) =
    (opcode word ≡ (reg_row op).opcode) × (funct3 word ≡ (reg_row op).funct3) × (funct7 word ≡ (reg_row op).funct7)
    × (rd ≡ rd_of word) × (rs1 ≡ rs1_of word) × (rs2 ≡ rs2_of word)
Table word (Atomic op wide aq rl rd rs1 rs2) =
    (opcode word ≡ 0x2f) × (funct3 word ≡ width_funct3 wide) × (funct5 word ≡ atomic_funct5 op)
    × (aq ≡ flag word 26) × (rl ≡ flag word 25)
    × (rd ≡ rd_of word) × (rs1 ≡ rs1_of word) × (rs2 ≡ rs2_of word) × MayHaveSource op rs2
Table word (Fence fm pred succ rs1 rd) =
    (opcode word ≡ 0x0f) × (funct3 word ≡ 0)
    × (fm ≡ field word 28 4) × (pred ≡ field word 24 4) × (succ ≡ field word 20 4)
    × (rs1 ≡ rs1_of word) × (rd ≡ rd_of word)
Table word (FenceI imm rs1 rd) =
    (opcode word ≡ 0x0f) × (funct3 word ≡ 1)
    × (imm ≡ field word 20 12) × (rs1 ≡ rs1_of word) × (rd ≡ rd_of word)
Table word Ecall = word ≡ 0x00000073
Table word Ebreak = word ≡ 0x00100073

-- The fields that a word can have.

abbrev pub IsRegister : ℕ → Type 0
IsRegister n = n < 32

abbrev pub IsBetween : ℤ → ℤ → ℤ → Type 0
IsBetween low high z = (low ≤ℤ z) × (z ≤ℤ high)

abbrev pub IsEven : ℤ → Type 0
IsEven z = nat_abs z % 2 ≡ 0

-- an immediate of 12 bits
abbrev pub IsTwelveBits : ℤ → Type 0
IsTwelveBits z = IsBetween (neg_ℤ (pos 2048)) (pos 2047) z

abbrev pub IsBranchOffset : ℤ → Type 0
IsBranchOffset z = IsBetween (neg_ℤ (pos 4096)) (pos 4094) z × IsEven z

abbrev pub IsJumpOffset : ℤ → Type 0
IsJumpOffset z = IsBetween (neg_ℤ (pos 1048576)) (pos 1048574) z × IsEven z

-- the immediate of each operation of OP-IMM and OP-IMM-32
abbrev pub ImmediateInRange : ImmOp → ℤ → Type 0
ImmediateInRange Slli imm = IsBetween (pos 0) (pos 63) imm
ImmediateInRange Srli imm = IsBetween (pos 0) (pos 63) imm
ImmediateInRange Srai imm = IsBetween (pos 0) (pos 63) imm
ImmediateInRange Slliw imm = IsBetween (pos 0) (pos 31) imm
ImmediateInRange Srliw imm = IsBetween (pos 0) (pos 31) imm
ImmediateInRange Sraiw imm = IsBetween (pos 0) (pos 31) imm
ImmediateInRange _ imm = IsTwelveBits imm

-- the fields are in the ranges that a word has room for
abbrev pub IsInRange : Ins → Type 0
IsInRange (Lui rd top) = IsRegister rd × (top < 2 ^ 20)
IsInRange (Auipc rd top) = IsRegister rd × (top < 2 ^ 20)
IsInRange (Jal rd off) = IsRegister rd × IsJumpOffset off
IsInRange (Jalr rd rs1 off) = IsRegister rd × IsRegister rs1 × IsTwelveBits off
IsInRange (Branch op rs1 rs2 off) =
    IsRegister rs1 × IsRegister rs2 × IsBranchOffset off
IsInRange (Load op rd rs1 off) = IsRegister rd × IsRegister rs1 × IsTwelveBits off
IsInRange (Store op rs1 rs2 off) = IsRegister rs1 × IsRegister rs2 × IsTwelveBits off
IsInRange (Imm op rd rs1 imm) = IsRegister rd × IsRegister rs1 × ImmediateInRange op imm
IsInRange (Reg op rd rs1 rs2) = IsRegister rd × IsRegister rs1 × IsRegister rs2
IsInRange (Atomic op wide aq rl rd rs1 rs2) =
    IsRegister rd × IsRegister rs1 × IsRegister rs2 × MayHaveSource op rs2
IsInRange (Fence fm pred succ rs1 rd) =
    (fm < 16) × (pred < 16) × (succ < 16) × IsRegister rs1 × IsRegister rd
IsInRange (FenceI imm rs1 rd) = (imm < 4096) × IsRegister rs1 × IsRegister rd
IsInRange Ecall = Unit {0}
IsInRange Ebreak = Unit {0}

-- The instruction of a word, computed: one function for each opcode that has operations.

abbrev pub jalr_at : ℕ → Option Ins
jalr_at word =
    if funct3 word == 0 then Some (Jalr (rd_of word) (rs1_of word) (i_immediate word)) else None

abbrev pub branch_at : ℕ → Option Ins
branch_at word =
    option_map (λ op. Branch op (rs1_of word) (rs2_of word) (b_immediate word)) (branch_op (funct3 word))

abbrev pub load_at : ℕ → Option Ins
load_at word =
    option_map (λ op. Load op (rd_of word) (rs1_of word) (i_immediate word)) (load_op (funct3 word))

abbrev pub store_at : ℕ → Option Ins
store_at word =
    option_map (λ op. Store op (rs1_of word) (rs2_of word) (s_immediate word)) (store_op (funct3 word))

abbrev pub imm_as : Option ImmOp → ℕ → Option Ins
imm_as op word = option_map (λ o. Imm o (rd_of word) (rs1_of word) (immediate_of o word)) op

abbrev pub reg_as : Option RegOp → ℕ → Option Ins
reg_as op word = option_map (λ o. Reg o (rd_of word) (rs1_of word) (rs2_of word)) op

abbrev pub atomic_with : Bool → AtomicOp → ℕ → Ins
atomic_with wide op word =
    Atomic op wide (flag word 26) (flag word 25) (rd_of word) (rs1_of word) (rs2_of word)

abbrev pub atomic_at : ℕ → Option Ins
atomic_at word =
    option_and_then
    (λ wide. option_map (λ op. atomic_with wide op word) (atomic_op (funct5 word) (rs2_of word)))
    (wide_at (funct3 word))

abbrev pub fence_at : ℕ → Option Ins
fence_at word =
    if funct3 word == 0 then
    Some (Fence (field word 28 4) (field word 24 4) (field word 20 4) (rs1_of word) (rd_of word))
    else if funct3 word == 1 then Some (FenceI (field word 20 12) (rs1_of word) (rd_of word))
    else None

-- SYSTEM is two whole words
abbrev pub system_at : ℕ → Option Ins
system_at word =
    if word == 0x00000073 then Some Ecall else if word == 0x00100073 then Some Ebreak else None

-- the instruction of a word whose opcode is this
unfoldable pub decoded_as : ℕ → ℕ → Option Ins
decoded_as opcode word =
    if opcode == 0x37 then Some (Lui (rd_of word) (u_top word)) else
    if opcode == 0x17 then Some (Auipc (rd_of word) (u_top word)) else
    if opcode == 0x6f then Some (Jal (rd_of word) (j_immediate word)) else
    if opcode == 0x67 then jalr_at word else
    if opcode == 0x63 then branch_at word else
    if opcode == 0x03 then load_at word else
    if opcode == 0x23 then store_at word else
    if opcode == 0x13 then imm_as (imm_op (funct3 word) (field word 26 6)) word else
    if opcode == 0x1b then imm_as (word_imm_op (funct3 word) (funct7 word)) word else
    if opcode == 0x33 then reg_as (reg_op (funct7 word) (funct3 word)) word else
    if opcode == 0x3b then reg_as (word_reg_op (funct7 word) (funct3 word)) word else
    if opcode == 0x0f then fence_at word else
    if opcode == 0x73 then system_at word else
    if opcode == 0x2f then atomic_at word else None

-- the instruction of a word, or none where the word is in no row of the table
unfoldable pub decoded : ℕ → Option Ins
decoded word = decoded_as (opcode word) word

-- Classes, as filters name them, and ends of blocks.

abbrev pub class_of_op : RegOp → Class
class_of_op Mul = MulDiv
class_of_op Mulh = MulDiv
class_of_op Mulhsu = MulDiv
class_of_op Mulhu = MulDiv
class_of_op Div = MulDiv
class_of_op Divu = MulDiv
class_of_op Rem = MulDiv
class_of_op Remu = MulDiv
class_of_op Mulw = MulDiv
class_of_op Divw = MulDiv
class_of_op Divuw = MulDiv
class_of_op Remw = MulDiv
class_of_op Remuw = MulDiv
class_of_op _ = Alu

abbrev pub class_of : Ins → Class
class_of (Lui rd top) = Alu
class_of (Auipc rd top) = Alu
class_of (Jal rd off) = Jump
class_of (Jalr rd rs1 off) = Jump
class_of (Branch op rs1 rs2 off) = BranchClass
class_of (Load op rd rs1 off) = LoadClass
class_of (Store op rs1 rs2 off) = StoreClass
class_of (Imm op rd rs1 imm) = Alu
class_of (Reg op rd rs1 rs2) = class_of_op op
class_of (Atomic op wide aq rl rd rs1 rs2) = AtomicClass
class_of (Fence fm pred succ rs1 rd) = System
class_of (FenceI imm rs1 rd) = System
class_of Ecall = System
class_of Ebreak = System

-- the class of a word is its instruction's, and Illegal outside the table
abbrev pub word_class : ℕ → Class
word_class word = option_map_or class_of (decoded word) Illegal

-- branches, jumps, ECALL and EBREAK end a block
abbrev pub ends_block : Ins → Bool
ends_block (Jal rd off) = true
ends_block (Jalr rd rs1 off) = true
ends_block (Branch op rs1 rs2 off) = true
ends_block Ecall = true
ends_block Ebreak = true
ends_block _ = false

-- The laws of the table.

-- the function gives an instruction exactly where the table has it
abbrev pub DecodedIsTable : Type 0
DecodedIsTable = (word : ℕ) (i : Ins) → (decoded word ≡ Some i) ↔ Table word i

-- no word is two instructions
abbrev pub NoWordIsTwo : Type 0
NoWordIsTwo = (word : ℕ) (i j : Ins) → Table word i → Table word j → i ≡ j

-- no instruction is two words
abbrev pub NoInstructionIsTwo : Type 0
NoInstructionIsTwo =
    (i : Ins) (v w : ℕ) → v < 2 ^ 32 → w < 2 ^ 32 → Table v i → Table w i → v ≡ w

-- the class of a word in the table, by its opcode and, for OP and OP-32, its funct7
abbrev pub class_by : ℕ → ℕ → Class
class_by opcode funct7 =
    if opcode == 0x03 then LoadClass else
    if opcode == 0x23 then StoreClass else
    if opcode == 0x63 then BranchClass else
    if opcode == 0x6f || opcode == 0x67 then Jump else
    if opcode == 0x2f then AtomicClass else
    if opcode == 0x73 || opcode == 0x0f then System else
    if (opcode == 0x33 || opcode == 0x3b) && funct7 == 0x01 then MulDiv else Alu

abbrev pub ClassIsByOpcode : Type 0
ClassIsByOpcode = (word : ℕ) (i : Ins) → Table word i → class_of i ≡ class_by (opcode word) (funct7 word)
