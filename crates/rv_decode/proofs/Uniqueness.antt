-- An instruction is one word: the fields of its row leave no bit of a word open.
use Rattle.std.proofs.Common.{◌≡◌, ◌<◌, ◌+◌, ◌*◌, ◌^◌, ℕ, ℤ, pos, ◌==◌, Some, arith, ap, ◌∙◌, sym}
use Rattle.flat_model.specs.declared.instructions.Ins.{Ins}
use Rattle.flat_model.specs.declared.instructions.Ins.TheVariants.{Lui, Auipc, Jal, Jalr, Branch, Load, Store, Imm, Reg, Atomic, Fence}
use Rattle.flat_model.specs.declared.instructions.Ins.TheVariants.{FenceI, Ecall, Ebreak}
use Rattle.flat_model.specs.declared.instructions.ImmOp.{ImmOp}
use Rattle.flat_model.specs.declared.instructions.ImmOp.TheVariants.{Addi, Slti, Sltiu, Xori, Ori, Andi, Slli, Srli, Srai, Addiw, Slliw}
use Rattle.flat_model.specs.declared.instructions.ImmOp.TheVariants.{Srliw, Sraiw}
use Rattle.flat_model.specs.Rows.{IsImmediate, IsShift, IsWordShift}
use Rattle.flat_model.specs.Instruction.{Table, decoded, field, signed_at, opcode, rd_of, funct3, rs1_of, rs2_of, funct7, funct5, u_top}
use Rattle.flat_model.specs.Instruction.{i_immediate, s_immediate, b_immediate, j_immediate}
use Rattle.rv_decode.proofs.TableLaw.{decoded-sound}

-- The parts of a word.

same_word :
    (v w : ℕ) → v < 2 ^ 32 → w < 2 ^ 32 → opcode v ≡ opcode w → rd_of v ≡ rd_of w → u_top v ≡ u_top w → v ≡ w
same_word v w below_v below_w a b c = omega arith

top_parts : (w : ℕ) → u_top w ≡ funct3 w + rs1_of w * 8 + field w 20 12 * 256
top_parts w = omega arith

high_parts : (w : ℕ) → field w 20 12 ≡ rs2_of w + funct7 w * 32
high_parts w = omega arith

funct7_parts : (w : ℕ) → funct7 w ≡ field w 25 6 + field w 31 1 * 64
funct7_parts w = omega arith

rd_parts : (w : ℕ) → rd_of w ≡ field w 7 1 + field w 8 4 * 2
rd_parts w = omega arith

j_parts : (w : ℕ) → u_top w ≡ field w 31 1 * 524288 + field w 21 10 * 512 + field w 20 1 * 256 + field w 12 8
j_parts w = omega arith

shift_parts : (w : ℕ) → field w 20 12 ≡ field w 20 6 + field w 26 6 * 64
shift_parts w = omega arith

order_parts : (w : ℕ) → funct7 w ≡ field w 25 1 + field w 26 1 * 2 + funct5 w * 4
order_parts w = omega arith

fence_parts : (w : ℕ) → field w 20 12 ≡ field w 20 4 + field w 24 4 * 16 + field w 28 4 * 256
fence_parts w = omega arith

-- Words with equal parts.

same_i :
    (v w : ℕ) → v < 2 ^ 32 → w < 2 ^ 32 → opcode v ≡ opcode w → rd_of v ≡ rd_of w → funct3 v ≡ funct3 w
    → rs1_of v ≡ rs1_of w → field v 20 12 ≡ field w 20 12 → v ≡ w
same_i v w below_v below_w a b c d e =
    let top : u_top v ≡ u_top w = omega (arith, top_parts v, top_parts w) in
    same_word v w below_v below_w a b top

same_r :
    (v w : ℕ) → v < 2 ^ 32 → w < 2 ^ 32 → opcode v ≡ opcode w → rd_of v ≡ rd_of w → funct3 v ≡ funct3 w
    → rs1_of v ≡ rs1_of w → rs2_of v ≡ rs2_of w → funct7 v ≡ funct7 w → v ≡ w
same_r v w below_v below_w a b c d e f =
    let high : field v 20 12 ≡ field w 20 12 = omega (arith, high_parts v, high_parts w) in
    same_i v w below_v below_w a b c d high

-- Equal immediates have equal bits.

signed_at-injective : (half m n : ℕ) → m < 2 * half → n < 2 * half → signed_at half m ≡ signed_at half n → m ≡ n
signed_at-injective half m n below_m below_n e = grind arith

i-injective : (v w : ℕ) → i_immediate v ≡ i_immediate w → field v 20 12 ≡ field w 20 12
i-injective v w e = signed_at-injective 2048 (field v 20 12) (field w 20 12) (omega arith) (omega arith) e

s-injective : (v w : ℕ) → s_immediate v ≡ s_immediate w → (rd_of v ≡ rd_of w) × (funct7 v ≡ funct7 w)
s-injective v w e =
    let bits : funct7 v * 32 + rd_of v ≡ funct7 w * 32 + rd_of w =
    signed_at-injective 2048 (funct7 v * 32 + rd_of v) (funct7 w * 32 + rd_of w) (omega arith) (omega arith) e in
    (omega arith, omega arith)

b-injective : (v w : ℕ) → b_immediate v ≡ b_immediate w → (rd_of v ≡ rd_of w) × (funct7 v ≡ funct7 w)
b-injective v w e =
    let bits_of : ℕ → ℕ = λ n. field n 31 1 * 4096 + field n 7 1 * 2048 + field n 25 6 * 32 + field n 8 4 * 2 in
    let bits : bits_of v ≡ bits_of w =
    signed_at-injective 4096 (bits_of v) (bits_of w) (omega arith) (omega arith) e in
    (omega (arith, rd_parts v, rd_parts w), omega (arith, funct7_parts v, funct7_parts w))

j-injective : (v w : ℕ) → j_immediate v ≡ j_immediate w → u_top v ≡ u_top w
j-injective v w e =
    let bits_of : ℕ → ℕ = λ n. field n 31 1 * 1048576 + field n 12 8 * 4096 + field n 20 1 * 2048 + field n 21 10 * 2 in
    let bits : bits_of v ≡ bits_of w =
    signed_at-injective 1048576 (bits_of v) (bits_of w) (omega arith) (omega arith) e in
    omega (arith, j_parts v, j_parts w)

flag-injective : (m n : ℕ) → m < 2 → n < 2 → (m == 1) ≡ (n == 1) → m ≡ n
flag-injective m n below_m below_n e = grind arith

shift-injective : (v w high : ℕ) (imm : ℤ) → IsShift v high imm → IsShift w high imm → field v 20 12 ≡ field w 20 12
shift-injective v w high imm s t =
    let amount : field v 20 6 ≡ field w 20 6 =
    (let e : pos (field v 20 6) ≡ pos (field w 20 6) = sym s.amount_is ∙ t.amount_is in cc) in
    let top : field v 26 6 ≡ field w 26 6 = s.high_is ∙ sym t.high_is in
    omega (arith, shift_parts v, shift_parts w)

word_shift-injective :
    (v w high : ℕ) (imm : ℤ) → IsWordShift v high imm → IsWordShift w high imm → field v 20 12 ≡ field w 20 12
word_shift-injective v w high imm s t =
    let amount : rs2_of v ≡ rs2_of w =
    (let e : pos (rs2_of v) ≡ pos (rs2_of w) = sym s.amount_is ∙ t.amount_is in cc) in
    let top : funct7 v ≡ funct7 w = s.high_is ∙ sym t.high_is in
    omega (arith, high_parts v, high_parts w)

immediate-injective :
    (op : ImmOp) (v w : ℕ) (imm : ℤ) → IsImmediate op v imm → IsImmediate op w imm → field v 20 12 ≡ field w 20 12
immediate-injective Addi v w imm s t = i-injective v w (sym s ∙ t)
immediate-injective Slti v w imm s t = i-injective v w (sym s ∙ t)
immediate-injective Sltiu v w imm s t = i-injective v w (sym s ∙ t)
immediate-injective Xori v w imm s t = i-injective v w (sym s ∙ t)
immediate-injective Ori v w imm s t = i-injective v w (sym s ∙ t)
immediate-injective Andi v w imm s t = i-injective v w (sym s ∙ t)
immediate-injective Slli v w imm s t = shift-injective v w _ imm s t
immediate-injective Srli v w imm s t = shift-injective v w _ imm s t
immediate-injective Srai v w imm s t = shift-injective v w _ imm s t
immediate-injective Addiw v w imm s t = i-injective v w (sym s ∙ t)
immediate-injective Slliw v w imm s t = word_shift-injective v w _ imm s t
immediate-injective Srliw v w imm s t = word_shift-injective v w _ imm s t
immediate-injective Sraiw v w imm s t = word_shift-injective v w _ imm s t

-- an instruction stands in the table for one word
pub one_word : (i : Ins) (v w : ℕ) → v < 2 ^ 32 → w < 2 ^ 32 → Table v i → Table w i → v ≡ w
one_word (Lui rd top) v w below_v below_w s t =
    same_word v w below_v below_w (s.0 ∙ sym t.0) (sym s.1 ∙ t.1) (sym s.2 ∙ t.2)
one_word (Auipc rd top) v w below_v below_w s t =
    same_word v w below_v below_w (s.0 ∙ sym t.0) (sym s.1 ∙ t.1) (sym s.2 ∙ t.2)
one_word (Jal rd off) v w below_v below_w s t =
    same_word v w below_v below_w (s.0 ∙ sym t.0) (sym s.1 ∙ t.1) (j-injective v w (sym s.2 ∙ t.2))
one_word (Jalr rd rs1 off) v w below_v below_w s t =
    same_i v w below_v below_w (s.0 ∙ sym t.0) (sym s.2 ∙ t.2) (s.1 ∙ sym t.1) (sym s.3 ∙ t.3)
    (i-injective v w (sym s.4 ∙ t.4))
one_word (Branch op rs1 rs2 off) v w below_v below_w s t =
    let bits : (rd_of v ≡ rd_of w) × (funct7 v ≡ funct7 w) = b-injective v w (sym s.4 ∙ t.4) in
    same_r v w below_v below_w (s.0 ∙ sym t.0) bits.0 (s.1 ∙ sym t.1) (sym s.2 ∙ t.2) (sym s.3 ∙ t.3) bits.1
one_word (Load op rd rs1 off) v w below_v below_w s t =
    same_i v w below_v below_w (s.0 ∙ sym t.0) (sym s.2 ∙ t.2) (s.1 ∙ sym t.1) (sym s.3 ∙ t.3)
    (i-injective v w (sym s.4 ∙ t.4))
one_word (Store op rs1 rs2 off) v w below_v below_w s t =
    let bits : (rd_of v ≡ rd_of w) × (funct7 v ≡ funct7 w) = s-injective v w (sym s.4 ∙ t.4) in
    same_r v w below_v below_w (s.0 ∙ sym t.0) bits.0 (s.1 ∙ sym t.1) (sym s.2 ∙ t.2) (sym s.3 ∙ t.3) bits.1
one_word (Imm op rd rs1 imm) v w below_v below_w s t =
    same_i v w below_v below_w (s.0 ∙ sym t.0) (sym s.2 ∙ t.2) (s.1 ∙ sym t.1) (sym s.3 ∙ t.3)
    (immediate-injective op v w imm s.4 t.4)
one_word (Reg op rd rs1 rs2) v w below_v below_w s t =
    same_r v w below_v below_w (s.0 ∙ sym t.0) (sym s.3 ∙ t.3) (s.1 ∙ sym t.1) (sym s.4 ∙ t.4) (sym s.5 ∙ t.5)
    (s.2 ∙ sym t.2)
one_word (Atomic op wide aq rl rd rs1 rs2) v w below_v below_w s t =
    let acquire : field v 26 1 ≡ field w 26 1 =
    flag-injective (field v 26 1) (field w 26 1) (omega arith) (omega arith) (sym s.3 ∙ t.3) in
    let release : field v 25 1 ≡ field w 25 1 =
    flag-injective (field v 25 1) (field w 25 1) (omega arith) (omega arith) (sym s.4 ∙ t.4) in
    let top : funct5 v ≡ funct5 w = s.2 ∙ sym t.2 in
    let high : funct7 v ≡ funct7 w =
    order_parts v
    ∙ (ap (λ n. n + field v 26 1 * 2 + funct5 v * 4) release
    ∙ (ap (λ n. field w 25 1 + n * 2 + funct5 v * 4) acquire
    ∙ (ap (λ n. field w 25 1 + field w 26 1 * 2 + n * 4) top
    ∙ sym (order_parts w)))) in
    same_r v w below_v below_w (s.0 ∙ sym t.0) (sym s.5 ∙ t.5) (s.1 ∙ sym t.1) (sym s.6 ∙ t.6) (sym s.7 ∙ t.7) high
one_word (Fence fm pred succ rs1 rd) v w below_v below_w s t =
    let mode : field v 28 4 ≡ field w 28 4 = sym s.2 ∙ t.2 in
    let before : field v 24 4 ≡ field w 24 4 = sym s.3 ∙ t.3 in
    let after : field v 20 4 ≡ field w 20 4 = sym s.4 ∙ t.4 in
    let high : field v 20 12 ≡ field w 20 12 =
    fence_parts v
    ∙ (ap (λ n. n + field v 24 4 * 16 + field v 28 4 * 256) after
    ∙ (ap (λ n. field w 20 4 + n * 16 + field v 28 4 * 256) before
    ∙ (ap (λ n. field w 20 4 + field w 24 4 * 16 + n * 256) mode
    ∙ sym (fence_parts w)))) in
    same_i v w below_v below_w (s.0 ∙ sym t.0) (sym s.6 ∙ t.6) (s.1 ∙ sym t.1) (sym s.5 ∙ t.5) high
one_word (FenceI imm rs1 rd) v w below_v below_w s t =
    same_i v w below_v below_w (s.0 ∙ sym t.0) (sym s.4 ∙ t.4) (s.1 ∙ sym t.1) (sym s.3 ∙ t.3) (sym s.2 ∙ t.2)
one_word Ecall v w below_v below_w s t = s ∙ sym t
one_word Ebreak v w below_v below_w s t = s ∙ sym t

-- no other word decodes to it
pub only_word :
    (word : ℕ) (i : Ins) → word < 2 ^ 32 → Table word i → (w : ℕ) → w < 2 ^ 32 → decoded w ≡ Some i → w ≡ word
only_word word i below row w below_w e = one_word i w word below_w below (decoded-sound w i e) row
