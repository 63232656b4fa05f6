-- The text of an instruction, and the line that `disas` prints for a word.
use Rattle.std.specs.Prelude.{◌≡◌, ℕ, ℤ, List, [], ◌++◌, Bool, if◌then◌else◌, codes, decimal}
use Rattle.std.specs.Fmt.{signed_decimal}
use Rattle.std.specs.Option.{option_map_or}
use Rattle.flat_model.specs.declared.instructions.BranchOp.{BranchOp}
use Rattle.flat_model.specs.declared.instructions.BranchOp.TheVariants.{Beq, Bne, Blt, Bge, Bltu, Bgeu}
use Rattle.flat_model.specs.declared.instructions.LoadOp.{LoadOp}
use Rattle.flat_model.specs.declared.instructions.LoadOp.TheVariants.{Lb, Lh, Lw, Ld, Lbu, Lhu, Lwu}
use Rattle.flat_model.specs.declared.instructions.StoreOp.{StoreOp}
use Rattle.flat_model.specs.declared.instructions.StoreOp.TheVariants.{Sb, Sh, Sw, Sd}
use Rattle.flat_model.specs.declared.instructions.ImmOp.{ImmOp}
use Rattle.flat_model.specs.declared.instructions.ImmOp.TheVariants.{Addi, Slti, Sltiu, Xori, Ori, Andi, Slli, Srli, Srai, Addiw, Slliw}
use Rattle.flat_model.specs.declared.instructions.ImmOp.TheVariants.{Srliw, Sraiw}
use Rattle.flat_model.specs.declared.instructions.RegOp.{RegOp}
use Rattle.flat_model.specs.declared.instructions.RegOp.TheVariants.{Add, Sub, Sll, Slt, Sltu, Xor, Srl, Sra, Or, And, Mul, Mulh}
use Rattle.flat_model.specs.declared.instructions.RegOp.TheVariants.{Mulhsu, Mulhu, Div, Divu, Rem, Remu, Addw, Subw, Sllw, Srlw, Sraw}
use Rattle.flat_model.specs.declared.instructions.RegOp.TheVariants.{Mulw, Divw, Divuw, Remw, Remuw}
use Rattle.flat_model.specs.declared.instructions.AtomicOp.{AtomicOp}
use Rattle.flat_model.specs.declared.instructions.AtomicOp.TheVariants.{Lr, Sc, Swap, Add as AmoAdd, Xor as AmoXor, And as AmoAnd}
use Rattle.flat_model.specs.declared.instructions.AtomicOp.TheVariants.{Or as AmoOr, Min, Max, Minu, Maxu}
use Rattle.flat_model.specs.declared.instructions.Ins.{Ins}
use Rattle.flat_model.specs.declared.instructions.Ins.TheVariants.{Lui, Auipc, Jal, Jalr, Branch, Load, Store, Imm, Reg, Atomic, Fence}
use Rattle.flat_model.specs.declared.instructions.Ins.TheVariants.{FenceI, Ecall, Ebreak}
use Rattle.flat_model.specs.Instruction.{decoded}
use Rattle.flat_model.specs.Texts.{hex}
use Rattle.number_text.specs.ShortHex.{short_hex}

abbrev pub register : ℕ → List ℕ
register n = codes "x" ++ decimal n

-- Names.

abbrev pub branch_name : BranchOp → List ℕ
branch_name Beq = codes "beq"
branch_name Bne = codes "bne"
branch_name Blt = codes "blt"
branch_name Bge = codes "bge"
branch_name Bltu = codes "bltu"
branch_name Bgeu = codes "bgeu"

abbrev pub load_name : LoadOp → List ℕ
load_name Lb = codes "lb"
load_name Lh = codes "lh"
load_name Lw = codes "lw"
load_name Ld = codes "ld"
load_name Lbu = codes "lbu"
load_name Lhu = codes "lhu"
load_name Lwu = codes "lwu"

abbrev pub store_name : StoreOp → List ℕ
store_name Sb = codes "sb"
store_name Sh = codes "sh"
store_name Sw = codes "sw"
store_name Sd = codes "sd"

abbrev pub imm_name : ImmOp → List ℕ
imm_name Addi = codes "addi"
imm_name Slti = codes "slti"
imm_name Sltiu = codes "sltiu"
imm_name Xori = codes "xori"
imm_name Ori = codes "ori"
imm_name Andi = codes "andi"
imm_name Slli = codes "slli"
imm_name Srli = codes "srli"
imm_name Srai = codes "srai"
imm_name Addiw = codes "addiw"
imm_name Slliw = codes "slliw"
imm_name Srliw = codes "srliw"
imm_name Sraiw = codes "sraiw"

abbrev pub reg_name : RegOp → List ℕ
reg_name Add = codes "add"
reg_name Sub = codes "sub"
reg_name Sll = codes "sll"
reg_name Slt = codes "slt"
reg_name Sltu = codes "sltu"
reg_name Xor = codes "xor"
reg_name Srl = codes "srl"
reg_name Sra = codes "sra"
reg_name Or = codes "or"
reg_name And = codes "and"
reg_name Mul = codes "mul"
reg_name Mulh = codes "mulh"
reg_name Mulhsu = codes "mulhsu"
reg_name Mulhu = codes "mulhu"
reg_name Div = codes "div"
reg_name Divu = codes "divu"
reg_name Rem = codes "rem"
reg_name Remu = codes "remu"
reg_name Addw = codes "addw"
reg_name Subw = codes "subw"
reg_name Sllw = codes "sllw"
reg_name Srlw = codes "srlw"
reg_name Sraw = codes "sraw"
reg_name Mulw = codes "mulw"
reg_name Divw = codes "divw"
reg_name Divuw = codes "divuw"
reg_name Remw = codes "remw"
reg_name Remuw = codes "remuw"

abbrev pub atomic_name : AtomicOp → List ℕ
atomic_name Lr = codes "lr"
atomic_name Sc = codes "sc"
atomic_name Swap = codes "amoswap"
atomic_name AmoAdd = codes "amoadd"
atomic_name AmoXor = codes "amoxor"
atomic_name AmoAnd = codes "amoand"
atomic_name AmoOr = codes "amoor"
atomic_name Min = codes "amomin"
atomic_name Max = codes "amomax"
atomic_name Minu = codes "amominu"
atomic_name Maxu = codes "amomaxu"

abbrev pub width_suffix : Bool → List ℕ
width_suffix wide = if wide then codes ".d" else codes ".w"

abbrev pub order_suffix : Bool → Bool → List ℕ
order_suffix aq rl =
    if aq then (if rl then codes ".aqrl" else codes ".aq") else (if rl then codes ".rl" else [])

-- Operands.

-- `x5, 0x20`
abbrev pub top_operands : ℕ → ℕ → List ℕ
top_operands rd top = register rd ++ (codes ", 0x" ++ short_hex top)

-- `x0, 4`
abbrev pub offset_operands : ℕ → ℤ → List ℕ
offset_operands rd off = register rd ++ (codes ", " ++ signed_decimal off)

-- `x6, 8(x2)`
abbrev pub memory_operands : ℕ → ℤ → ℕ → List ℕ
memory_operands reg off base =
    register reg ++ (codes ", " ++ (signed_decimal off ++ (codes "(" ++ (register base ++ codes ")"))))

-- `x10, x0, 20`
abbrev pub number_operands : ℕ → ℕ → ℤ → List ℕ
number_operands first second number =
    register first ++ (codes ", " ++ (register second ++ (codes ", " ++ signed_decimal number)))

-- `x5, x6, x7`
abbrev pub register_operands : ℕ → ℕ → ℕ → List ℕ
register_operands rd rs1 rs2 =
    register rd ++ (codes ", " ++ (register rs1 ++ (codes ", " ++ register rs2)))

-- `x6, (x5)`, of LR
abbrev pub address_operands : ℕ → ℕ → List ℕ
address_operands rd rs1 = register rd ++ (codes ", (" ++ (register rs1 ++ codes ")"))

-- `x10, x6, (x5)`: rd, rs2, rs1
abbrev pub source_operands : ℕ → ℕ → ℕ → List ℕ
source_operands rd rs1 rs2 =
    register rd ++ (codes ", " ++ (register rs2 ++ (codes ", (" ++ (register rs1 ++ codes ")"))))

abbrev pub atomic_operands : AtomicOp → ℕ → ℕ → ℕ → List ℕ
atomic_operands Lr rd rs1 rs2 = address_operands rd rs1
atomic_operands _ rd rs1 rs2 = source_operands rd rs1 rs2

-- `15, 15`
abbrev pub fence_operands : ℕ → ℕ → List ℕ
fence_operands pred succ = decimal pred ++ (codes ", " ++ decimal succ)

-- Instructions.

-- the name of an operation of AMO, with its width and order
abbrev pub atomic_head : AtomicOp → Bool → Bool → Bool → List ℕ
atomic_head op wide aq rl = atomic_name op ++ (width_suffix wide ++ (order_suffix aq rl ++ codes " "))

-- the name and, where operands follow, a space
abbrev pub head_of : Ins → List ℕ
head_of (Lui rd top) = codes "lui "
head_of (Auipc rd top) = codes "auipc "
head_of (Jal rd off) = codes "jal "
head_of (Jalr rd rs1 off) = codes "jalr "
head_of (Branch op rs1 rs2 off) = branch_name op ++ codes " "
head_of (Load op rd rs1 off) = load_name op ++ codes " "
head_of (Store op rs1 rs2 off) = store_name op ++ codes " "
head_of (Imm op rd rs1 imm) = imm_name op ++ codes " "
head_of (Reg op rd rs1 rs2) = reg_name op ++ codes " "
head_of (Atomic op wide aq rl rd rs1 rs2) = atomic_head op wide aq rl
head_of (Fence fm pred succ rs1 rd) = codes "fence "
head_of (FenceI imm rs1 rd) = codes "fence.i"
head_of Ecall = codes "ecall"
head_of Ebreak = codes "ebreak"

abbrev pub operands_of : Ins → List ℕ
operands_of (Lui rd top) = top_operands rd top
operands_of (Auipc rd top) = top_operands rd top
operands_of (Jal rd off) = offset_operands rd off
operands_of (Jalr rd rs1 off) = memory_operands rd off rs1
operands_of (Branch op rs1 rs2 off) = number_operands rs1 rs2 off
operands_of (Load op rd rs1 off) = memory_operands rd off rs1
operands_of (Store op rs1 rs2 off) = memory_operands rs2 off rs1
operands_of (Imm op rd rs1 imm) = number_operands rd rs1 imm
operands_of (Reg op rd rs1 rs2) = register_operands rd rs1 rs2
operands_of (Atomic op wide aq rl rd rs1 rs2) = atomic_operands op rd rs1 rs2
operands_of (Fence fm pred succ rs1 rd) = fence_operands pred succ
operands_of (FenceI imm rs1 rd) = []
operands_of Ecall = []
operands_of Ebreak = []

abbrev pub text_of : Ins → List ℕ
text_of ins = head_of ins ++ operands_of ins

-- a word outside the table
abbrev pub raw_text : ℕ → List ℕ
raw_text word = codes ".word 0x" ++ hex 8 word

abbrev pub word_text : ℕ → List ℕ
word_text word = option_map_or text_of (decoded word) (raw_text word)

-- the address, the word, the text and a line feed
unfoldable pub line_of : ℕ → ℕ → List ℕ
line_of pc word = hex 16 pc ++ (codes " " ++ (hex 8 word ++ (codes " " ++ (word_text word ++ codes "\n"))))

-- a list that begins with another
pub record Extends (old new : List ℕ) : Type 0 where
  pub more : List ℕ
  pub is : new ≡ old ++ more
