-- What the instructions that compute give, on registers as unsigned 64-bit numbers: RISC-V Unprivileged ISA
-- 20191213, sections 2.4, 2.5 and 5.2, and chapters 7 (M) and 8 (A).
use Rattle.std.specs.Prelude.{ℕ, ◌+◌, ◌-◌, ◌*◌, ◌/◌, ◌%◌, ◌^◌, ◌==◌, Bool, true, false, not}
use Rattle.std.specs.Prelude.{if◌then◌else◌, nat_lt, ℤ, pos, ◌*ℤ◌}
use Rattle.std.specs.Prelude.{int_lt, int_div, int_rem, bit_and, bit_or, bit_xor}
use Rattle.std.specs.Int.{Width, w8, w16, w32, w64, cast_signed, cast_unsigned, int_shr, from_bool}
use mir.Val.{bits}
use Rattle.flat_model.specs.declared.instructions.BranchOp.{BranchOp}
use Rattle.flat_model.specs.declared.instructions.BranchOp.TheVariants.{Beq, Bne, Blt, Bge, Bltu, Bgeu}
use Rattle.flat_model.specs.declared.instructions.ImmOp.{ImmOp}
use Rattle.flat_model.specs.declared.instructions.ImmOp.TheVariants.{Addi, Slti, Sltiu, Xori, Ori, Andi, Slli, Srli, Srai, Addiw, Slliw}
use Rattle.flat_model.specs.declared.instructions.ImmOp.TheVariants.{Srliw, Sraiw}
use Rattle.flat_model.specs.declared.instructions.RegOp.{RegOp}
use Rattle.flat_model.specs.declared.instructions.RegOp.TheVariants.{Add, Sub, Sll, Slt, Sltu, Xor, Srl, Sra, Or, And, Mul, Mulh}
use Rattle.flat_model.specs.declared.instructions.RegOp.TheVariants.{Mulhsu, Mulhu, Div, Divu, Rem, Remu, Addw, Subw, Sllw, Srlw, Sraw}
use Rattle.flat_model.specs.declared.instructions.RegOp.TheVariants.{Mulw, Divw, Divuw, Remw, Remuw}
use Rattle.flat_model.specs.declared.instructions.LoadOp.{LoadOp}
use Rattle.flat_model.specs.declared.instructions.LoadOp.TheVariants.{Lb, Lh, Lw, Ld, Lbu, Lhu, Lwu}
use Rattle.flat_model.specs.declared.instructions.AtomicOp.{AtomicOp}
use Rattle.flat_model.specs.declared.instructions.AtomicOp.TheVariants as atomic

-- sums, differences and products modulo 2^64
abbrev pub plus : ℕ → ℕ → ℕ
plus a b = (a + b) % 2 ^ 64

abbrev pub minus : ℕ → ℕ → ℕ
minus a b = (a + (2 ^ 64 - b)) % 2 ^ 64

abbrev pub times : ℕ → ℕ → ℕ
times a b = a * b % 2 ^ 64

-- a number and a signed offset, modulo 2^64
abbrev pub plus_signed : ℕ → ℤ → ℕ
plus_signed a off = plus a (cast_unsigned w64 off)

-- a register read as a signed number
abbrev pub signed : ℕ → ℤ
signed v = cast_signed w64 v

-- the low 32 bits
abbrev pub low_word : ℕ → ℕ
low_word v = v % 2 ^ 32

-- the low bits of this width, sign-extended to 64
abbrev pub sign_extended : Width → ℕ → ℕ
sign_extended w v = cast_unsigned w64 (cast_signed w (v % 2 ^ bits w))

-- the low 32 bits, sign-extended to 64
abbrev pub word_extended : ℕ → ℕ
word_extended v = sign_extended w32 v

-- the high 64 bits of a product of 128 bits
abbrev pub high_half : ℤ → ℕ
high_half product = cast_unsigned w64 (int_shr product 64)

-- Division of numbers of a width (chapter 7, section 2). By 0 the quotient is all ones and the remainder the
-- dividend. Signed quotients are rounded towards zero: -2^63 by -1 gives 2^63, whose bits are those of -2^63.
abbrev pub quotient : Width → ℕ → ℕ → ℕ
quotient w a b = if b == 0 then 2 ^ bits w - 1 else cast_unsigned w (int_div (cast_signed w a) (cast_signed w b))

abbrev pub remainder : Width → ℕ → ℕ → ℕ
remainder w a b = if b == 0 then a else cast_unsigned w (int_rem (cast_signed w a) (cast_signed w b))

abbrev pub quotient_unsigned : Width → ℕ → ℕ → ℕ
quotient_unsigned w a b = if b == 0 then 2 ^ bits w - 1 else a / b

abbrev pub remainder_unsigned : ℕ → ℕ → ℕ
remainder_unsigned a b = if b == 0 then a else a % b

-- the instructions of OP and OP-32
abbrev pub reg_result : RegOp → ℕ → ℕ → ℕ
reg_result Add a b = plus a b
reg_result Sub a b = minus a b
reg_result Sll a b = a * 2 ^ (b % 64) % 2 ^ 64
reg_result Slt a b = from_bool (int_lt (signed a) (signed b))
reg_result Sltu a b = from_bool (nat_lt a b)
reg_result Xor a b = bit_xor a b
reg_result Srl a b = a / 2 ^ (b % 64)
reg_result Sra a b = cast_unsigned w64 (int_shr (signed a) (b % 64))
reg_result Or a b = bit_or a b
reg_result And a b = bit_and a b
reg_result Mul a b = times a b
reg_result Mulh a b = high_half (signed a *ℤ signed b)
reg_result Mulhsu a b = high_half (signed a *ℤ pos b)
reg_result Mulhu a b = a * b / 2 ^ 64
reg_result Div a b = quotient w64 a b
reg_result Divu a b = quotient_unsigned w64 a b
reg_result Rem a b = remainder w64 a b
reg_result Remu a b = remainder_unsigned a b
reg_result Addw a b = word_extended (plus a b)
reg_result Subw a b = word_extended (minus a b)
reg_result Sllw a b = word_extended (low_word a * 2 ^ (b % 32))
reg_result Srlw a b = word_extended (low_word a / 2 ^ (b % 32))
reg_result Sraw a b = cast_unsigned w64 (int_shr (cast_signed w32 (low_word a)) (b % 32))
reg_result Mulw a b = word_extended (low_word a * low_word b)
reg_result Divw a b = word_extended (quotient w32 (low_word a) (low_word b))
reg_result Divuw a b = word_extended (quotient_unsigned w32 (low_word a) (low_word b))
reg_result Remw a b = word_extended (remainder w32 (low_word a) (low_word b))
reg_result Remuw a b = word_extended (remainder_unsigned (low_word a) (low_word b))

-- each operation of OP-IMM and OP-IMM-32 is one of OP and OP-32, on the sign-extended immediate
abbrev pub register_form : ImmOp → RegOp
register_form Addi = Add
register_form Slti = Slt
register_form Sltiu = Sltu
register_form Xori = Xor
register_form Ori = Or
register_form Andi = And
register_form Slli = Sll
register_form Srli = Srl
register_form Srai = Sra
register_form Addiw = Addw
register_form Slliw = Sllw
register_form Srliw = Srlw
register_form Sraiw = Sraw

abbrev pub imm_result : ImmOp → ℕ → ℤ → ℕ
imm_result op a imm = reg_result (register_form op) a (cast_unsigned w64 imm)

-- the comparisons of the branches
abbrev pub branch_taken : BranchOp → ℕ → ℕ → Bool
branch_taken Beq a b = a == b
branch_taken Bne a b = not (a == b)
branch_taken Blt a b = int_lt (signed a) (signed b)
branch_taken Bge a b = not (int_lt (signed a) (signed b))
branch_taken Bltu a b = nat_lt a b
branch_taken Bgeu a b = not (nat_lt a b)

-- an access of a load has 2^shift bytes
abbrev pub load_shift : LoadOp → ℕ
load_shift Lb = 0
load_shift Lh = 1
load_shift Lw = 2
load_shift Ld = 3
load_shift Lbu = 0
load_shift Lhu = 1
load_shift Lwu = 2

-- the loads that sign-extend
abbrev pub load_signed : LoadOp → Bool
load_signed Lb = true
load_signed Lh = true
load_signed Lw = true
load_signed _ = false

-- what a load makes of the bits that it finds
abbrev pub load_result : LoadOp → ℕ → ℕ
load_result Lb raw = sign_extended w8 raw
load_result Lh raw = sign_extended w16 raw
load_result Lw raw = sign_extended w32 raw
load_result Ld raw = raw
load_result Lbu raw = raw
load_result Lhu raw = raw
load_result Lwu raw = raw

-- the low 2^shift bytes of a number
abbrev pub low_bytes : ℕ → ℕ → ℕ
low_bytes shift value = value % 2 ^ (8 * 2 ^ shift)

-- A: the D forms work on 64 bits, the W forms on 32
abbrev pub atomic_shift : Bool → ℕ
atomic_shift wide = if wide then 3 else 2

abbrev pub atomic_width : Bool → Width
atomic_width wide = if wide then w64 else w32

-- what LR and the AMOs give for the bits that they find
abbrev pub atomic_result : Bool → ℕ → ℕ
atomic_result wide raw = if wide then raw else word_extended raw

-- the lesser and the greater of two numbers, by a test whether the first is less
abbrev pub lesser : Bool → ℕ → ℕ → ℕ
lesser less a b = if less then a else b

abbrev pub greater : Bool → ℕ → ℕ → ℕ
greater less a b = if less then b else a

-- what an AMO on this width writes for the bits a that it finds and the bits b of rs2; the last row is AMOSWAP,
-- as LR and SC are no AMOs
abbrev pub amo_at : Width → AtomicOp → ℕ → ℕ → ℕ
amo_at w atomic.Add a b = (a + b) % 2 ^ bits w
amo_at w atomic.Xor a b = bit_xor a b
amo_at w atomic.And a b = bit_and a b
amo_at w atomic.Or a b = bit_or a b
amo_at w atomic.Min a b = lesser (int_lt (cast_signed w a) (cast_signed w b)) a b
amo_at w atomic.Max a b = greater (int_lt (cast_signed w a) (cast_signed w b)) a b
amo_at w atomic.Minu a b = lesser (nat_lt a b) a b
amo_at w atomic.Maxu a b = greater (nat_lt a b) a b
amo_at w _ a b = b

-- the bits that the atomic works on
abbrev pub atomic_bits : Bool → ℕ → ℕ
atomic_bits wide v = if wide then v else low_word v

-- what an AMO writes for the number a that it finds and the number b in rs2
abbrev pub amo_result : AtomicOp → Bool → ℕ → ℕ → ℕ
amo_result op wide a b = amo_at (atomic_width wide) op (atomic_bits wide a) (atomic_bits wide b)
