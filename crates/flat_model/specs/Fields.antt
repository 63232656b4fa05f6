-- The fields and immediates of an instruction word: RISC-V Unprivileged ISA 20191213, sections 2.2 and 2.3.
use Rattle.std.specs.Prelude.{ℕ, ◌+◌, ◌-◌, ◌*◌, ◌/◌, ◌%◌, ◌^◌, ℤ, pos, negsuc, Bool, ◌==◌, nat_lt}
use Rattle.std.specs.Prelude.{if◌then◌else◌}

-- the `len` bits of a word from bit `low` on, as a number
abbrev pub field : ℕ → ℕ → ℕ → ℕ
field word low len = word / 2 ^ low % 2 ^ len

-- whether a bit of a word is set
abbrev pub flag : ℕ → ℕ → Bool
flag word bit = field word bit 1 == 1

-- a number below `2 * half` as a signed number whose top bit weighs `half`, in two's complement
abbrev pub signed_at : ℕ → ℕ → ℤ
signed_at half n = if nat_lt n half then pos n else negsuc (2 * half - 1 - n)

-- the fields that all forms share, where they have them
abbrev pub opcode : ℕ → ℕ
opcode word = field word 0 7

abbrev pub rd_of : ℕ → ℕ
rd_of word = field word 7 5

abbrev pub funct3 : ℕ → ℕ
funct3 word = field word 12 3

abbrev pub rs1_of : ℕ → ℕ
rs1_of word = field word 15 5

abbrev pub rs2_of : ℕ → ℕ
rs2_of word = field word 20 5

abbrev pub funct7 : ℕ → ℕ
funct7 word = field word 25 7

abbrev pub funct5 : ℕ → ℕ
funct5 word = field word 27 5

-- form I: bits 11:0 stand in 31:20
abbrev pub i_immediate : ℕ → ℤ
i_immediate word = signed_at (2 ^ 11) (field word 20 12)

-- form S: bits 11:5 stand in 31:25, bits 4:0 in 11:7
abbrev pub s_immediate : ℕ → ℤ
s_immediate word = signed_at (2 ^ 11) (field word 25 7 * 2 ^ 5 + field word 7 5)

-- form B: bit 12 stands in 31, bit 11 in 7, bits 10:5 in 30:25, bits 4:1 in 11:8; bit 0 is 0
abbrev pub b_immediate : ℕ → ℤ
b_immediate word =
    signed_at (2 ^ 12)
    (field word 31 1 * 2 ^ 12 + field word 7 1 * 2 ^ 11 + field word 25 6 * 2 ^ 5 + field word 8 4 * 2)

-- form U: the 20-bit field stands in 31:12
abbrev pub u_top : ℕ → ℕ
u_top word = field word 12 20

-- form J: bit 20 stands in 31, bits 19:12 in 19:12, bit 11 in 20, bits 10:1 in 30:21; bit 0 is 0
abbrev pub j_immediate : ℕ → ℤ
j_immediate word =
    signed_at (2 ^ 20)
    (field word 31 1 * 2 ^ 20 + field word 12 8 * 2 ^ 12 + field word 20 1 * 2 ^ 11 + field word 21 10 * 2)
