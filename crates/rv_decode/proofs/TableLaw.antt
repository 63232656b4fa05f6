-- The table as a relation and as a function are one: each word's instruction is that of its row.
use Rattle.std.proofs.Common.{◌≡◌, ℕ, ℤ, ◌==◌, if◌then◌else◌, Option, Some, None, refl, ap, ◌∙◌, sym, subst}
use Rattle.std.proofs.Common.{◌↔◌}
use Rattle.std.specs.Prelude.{option_map, option_and_then}
use Rattle.flat_model.specs.declared.instructions.Ins.{Ins}
use Rattle.flat_model.specs.declared.instructions.Ins.TheVariants.{Lui, Auipc, Jal, Jalr, Branch, Load, Store, Imm, Reg, Atomic, Fence}
use Rattle.flat_model.specs.declared.instructions.Ins.TheVariants.{FenceI, Ecall, Ebreak}
use Rattle.flat_model.specs.declared.instructions.ImmOp.{ImmOp}
use Rattle.flat_model.specs.declared.instructions.ImmOp.TheVariants.{Addi, Slti, Sltiu, Xori, Ori, Andi, Slli, Srli, Srai, Addiw, Slliw}
use Rattle.flat_model.specs.declared.instructions.ImmOp.TheVariants.{Srliw, Sraiw}
use Rattle.flat_model.specs.declared.instructions.RegOp.{RegOp}
use Rattle.flat_model.specs.declared.instructions.RegOp.TheVariants.{Add, Sub, Sll, Slt, Sltu, Xor, Srl, Sra, Or, And, Mul, Mulh, Mulhsu}
use Rattle.flat_model.specs.declared.instructions.RegOp.TheVariants.{Mulhu, Div, Divu, Rem, Remu, Addw, Subw, Sllw, Srlw, Sraw, Mulw}
use Rattle.flat_model.specs.declared.instructions.RegOp.TheVariants.{Divw, Divuw, Remw, Remuw}
use Rattle.flat_model.specs.Rows.{branch_op, load_op, store_op, imm_op, word_imm_op, imm_row, IsImmediate, immediate_of, reg_op}
use Rattle.flat_model.specs.Rows.{word_reg_op, reg_row, atomic_op, atomic_funct5, MayHaveSource, wide_at}
use Rattle.flat_model.specs.Instruction.{Table, decoded, decoded_as, field, opcode, rd_of, funct3, rs1_of, rs2_of, funct7, funct5}
use Rattle.flat_model.specs.Instruction.{i_immediate, s_immediate, b_immediate, j_immediate, u_top, jalr_at, branch_at, load_at, store_at}
use Rattle.flat_model.specs.Instruction.{imm_as, reg_as, atomic_with, atomic_at, fence_at, system_at}
use Rattle.rv_decode.proofs.Choices.{found, nothing, choose, mapped, chained}
use Rattle.rv_decode.proofs.Listings.{branch_op-sound, branch_op-row, load_op-sound, load_op-row, store_op-sound, store_op-row}
use Rattle.rv_decode.proofs.Listings.{wide_at-sound, wide_at-row, reg_op-sound, word_reg_op-sound, atomic_op-sound, atomic_op-row}

-- The function gives rows alone.

abbrev IsImmRow : ℕ → ℕ → ImmOp → Type 0
IsImmRow opcode word op =
    (opcode ≡ (imm_row op).opcode) × (funct3 word ≡ (imm_row op).funct3) × IsImmediate op word (immediate_of op word)

imm_op-sound : (word : ℕ) (op : ImmOp) → imm_op (funct3 word) (field word 26 6) ≡ Some op → IsImmRow 0x13 word op
imm_op-sound word op =
    let P : ImmOp → Type 0 = λ o. IsImmRow 0x13 word o in
    let n : ℕ = funct3 word in
    let high : ℕ = field word 26 6 in
    choose P n 0 _ _ op (λ h. found P Addi op (refl, h, refl))
    (choose P n 1 _ _ op (λ h. choose P high 0x00 _ _ op
    (λ s. found P Slli op (refl, h, record { high_is = s; amount_is = refl })) (nothing P op))
    (choose P n 2 _ _ op (λ h. found P Slti op (refl, h, refl))
    (choose P n 3 _ _ op (λ h. found P Sltiu op (refl, h, refl))
    (choose P n 4 _ _ op (λ h. found P Xori op (refl, h, refl))
    (choose P n 5 _ _ op (λ h. choose P high 0x00 _ _ op
    (λ s. found P Srli op (refl, h, record { high_is = s; amount_is = refl }))
    (choose P high 0x10 _ _ op
    (λ s. found P Srai op (refl, h, record { high_is = s; amount_is = refl })) (nothing P op)))
    (choose P n 6 _ _ op (λ h. found P Ori op (refl, h, refl))
    (choose P n 7 _ _ op (λ h. found P Andi op (refl, h, refl))
    (nothing P op))))))))

word_imm_op-sound : (word : ℕ) (op : ImmOp) → word_imm_op (funct3 word) (funct7 word) ≡ Some op → IsImmRow 0x1b word op
word_imm_op-sound word op =
    let P : ImmOp → Type 0 = λ o. IsImmRow 0x1b word o in
    let n : ℕ = funct3 word in
    let high : ℕ = funct7 word in
    choose P n 0 _ _ op (λ h. found P Addiw op (refl, h, refl))
    (choose P n 1 _ _ op (λ h. choose P high 0x00 _ _ op
    (λ s. found P Slliw op (refl, h, record { high_is = s; amount_is = refl })) (nothing P op))
    (choose P n 5 _ _ op (λ h. choose P high 0x00 _ _ op
    (λ s. found P Srliw op (refl, h, record { high_is = s; amount_is = refl }))
    (choose P high 0x20 _ _ op
    (λ s. found P Sraiw op (refl, h, record { high_is = s; amount_is = refl })) (nothing P op)))
    (nothing P op)))

jalr_at-sound : (word : ℕ) (i : Ins) → opcode word ≡ 0x67 → jalr_at word ≡ Some i → Table word i
jalr_at-sound word i h =
    let P : Ins → Type 0 = Table word in
    choose P (funct3 word) 0 _ _ i (λ f. found P _ i (h, f, refl, refl, refl)) (nothing P i)

branch_at-sound : (word : ℕ) (i : Ins) → opcode word ≡ 0x63 → branch_at word ≡ Some i → Table word i
branch_at-sound word i h =
    mapped _ (Table word) (branch_op (funct3 word)) i (λ op e. (h, branch_op-sound _ op e, refl, refl, refl))

load_at-sound : (word : ℕ) (i : Ins) → opcode word ≡ 0x03 → load_at word ≡ Some i → Table word i
load_at-sound word i h =
    mapped _ (Table word) (load_op (funct3 word)) i (λ op e. (h, load_op-sound _ op e, refl, refl, refl))

store_at-sound : (word : ℕ) (i : Ins) → opcode word ≡ 0x23 → store_at word ≡ Some i → Table word i
store_at-sound word i h =
    mapped _ (Table word) (store_op (funct3 word)) i (λ op e. (h, store_op-sound _ op e, refl, refl, refl))

imm_as-sound :
    (word n : ℕ) (o : Option ImmOp) (i : Ins) → opcode word ≡ n → ((op : ImmOp) → o ≡ Some op → IsImmRow n word op)
    → imm_as o word ≡ Some i → Table word i
imm_as-sound word n o i h sound =
    mapped _ (Table word) o i
    (λ op e. let row : IsImmRow n word op = sound op e in (h ∙ row.0, row.1, refl, refl, row.2))

reg_as-sound :
    (word n : ℕ) (o : Option RegOp) (i : Ins) → opcode word ≡ n
    → ((op : RegOp) → o ≡ Some op → (n ≡ (reg_row op).opcode) × (funct3 word ≡ (reg_row op).funct3) × (funct7 word ≡ (reg_row op).funct7))
    → reg_as o word ≡ Some i → Table word i
reg_as-sound word n o i h sound =
    mapped _ (Table word) o i
    (λ op e.
    let row : (n ≡ (reg_row op).opcode) × (funct3 word ≡ (reg_row op).funct3) × (funct7 word ≡ (reg_row op).funct7) = sound op e in
    (h ∙ row.0, row.1, row.2, refl, refl, refl))

atomic_at-sound : (word : ℕ) (i : Ins) → opcode word ≡ 0x2f → atomic_at word ≡ Some i → Table word i
atomic_at-sound word i h =
    chained _ (Table word) (wide_at (funct3 word)) i
    (λ wide w.
    mapped (λ op. atomic_with wide op word) (Table word) (atomic_op (funct5 word) (rs2_of word)) i
    (λ op e.
    let row : (funct5 word ≡ atomic_funct5 op) × MayHaveSource op (rs2_of word) = atomic_op-sound _ _ op e in
    (h, wide_at-sound _ wide w, row.0, refl, refl, refl, refl, refl, row.1)))

fence_at-sound : (word : ℕ) (i : Ins) → opcode word ≡ 0x0f → fence_at word ≡ Some i → Table word i
fence_at-sound word i h =
    let P : Ins → Type 0 = Table word in
    choose P (funct3 word) 0 _ _ i (λ f. found P _ i (h, f, refl, refl, refl, refl, refl))
    (choose P (funct3 word) 1 _ _ i (λ f. found P _ i (h, f, refl, refl, refl))
    (nothing P i))

system_at-sound : (word : ℕ) (i : Ins) → system_at word ≡ Some i → Table word i
system_at-sound word i =
    let P : Ins → Type 0 = Table word in
    choose P word 0x00000073 _ _ i (λ h. found P Ecall i h)
    (choose P word 0x00100073 _ _ i (λ h. found P Ebreak i h)
    (nothing P i))

pub decoded-sound : (word : ℕ) (i : Ins) → decoded word ≡ Some i → Table word i
unfolding decoded decoded_as
decoded-sound word i =
    let P : Ins → Type 0 = Table word in
    let n : ℕ = opcode word in
    choose P n 0x37 _ _ i (λ h. found P _ i (h, refl, refl))
    (choose P n 0x17 _ _ i (λ h. found P _ i (h, refl, refl))
    (choose P n 0x6f _ _ i (λ h. found P _ i (h, refl, refl))
    (choose P n 0x67 _ _ i (λ h. jalr_at-sound word i h)
    (choose P n 0x63 _ _ i (λ h. branch_at-sound word i h)
    (choose P n 0x03 _ _ i (λ h. load_at-sound word i h)
    (choose P n 0x23 _ _ i (λ h. store_at-sound word i h)
    (choose P n 0x13 _ _ i (λ h. imm_as-sound word 0x13 _ i h (imm_op-sound word))
    (choose P n 0x1b _ _ i (λ h. imm_as-sound word 0x1b _ i h (word_imm_op-sound word))
    (choose P n 0x33 _ _ i (λ h. reg_as-sound word 0x33 _ i h (reg_op-sound _ _))
    (choose P n 0x3b _ _ i (λ h. reg_as-sound word 0x3b _ i h (word_reg_op-sound _ _))
    (choose P n 0x0f _ _ i (λ h. fence_at-sound word i h)
    (choose P n 0x73 _ _ i (λ h. system_at-sound word i)
    (choose P n 0x2f _ _ i (λ h. atomic_at-sound word i h)
    (nothing P i))))))))))))))

-- And every row.

-- what the function gives at an opcode, it gives at a word with that opcode
at : (word n : ℕ) (i : Ins) → opcode word ≡ n → decoded_as n word ≡ Some i → decoded word ≡ Some i
unfolding decoded
at word n i h e = ap (λ o. decoded_as o word) h ∙ e

imm_found :
    (word : ℕ) (op : ImmOp) (imm : ℤ) → opcode word ≡ 0x13 → imm_op (funct3 word) (field word 26 6) ≡ Some op
    → imm ≡ immediate_of op word → decoded word ≡ Some (Imm op (rd_of word) (rs1_of word) imm)
unfolding decoded_as
imm_found word op imm h e v =
    at word 0x13 _ h (ap (λ o. imm_as o word) e ∙ ap (λ z. Some (Imm op (rd_of word) (rs1_of word) z)) (sym v))

word_imm_found :
    (word : ℕ) (op : ImmOp) (imm : ℤ) → opcode word ≡ 0x1b → word_imm_op (funct3 word) (funct7 word) ≡ Some op
    → imm ≡ immediate_of op word → decoded word ≡ Some (Imm op (rd_of word) (rs1_of word) imm)
unfolding decoded_as
word_imm_found word op imm h e v =
    at word 0x1b _ h (ap (λ o. imm_as o word) e ∙ ap (λ z. Some (Imm op (rd_of word) (rs1_of word) z)) (sym v))

imm_row-found :
    (word : ℕ) (op : ImmOp) (imm : ℤ) → opcode word ≡ (imm_row op).opcode → funct3 word ≡ (imm_row op).funct3
    → IsImmediate op word imm → decoded word ≡ Some (Imm op (rd_of word) (rs1_of word) imm)
imm_row-found word Addi imm h f v = imm_found word Addi imm h (ap (λ n. imm_op n (field word 26 6)) f) v
imm_row-found word Slti imm h f v = imm_found word Slti imm h (ap (λ n. imm_op n (field word 26 6)) f) v
imm_row-found word Sltiu imm h f v = imm_found word Sltiu imm h (ap (λ n. imm_op n (field word 26 6)) f) v
imm_row-found word Xori imm h f v = imm_found word Xori imm h (ap (λ n. imm_op n (field word 26 6)) f) v
imm_row-found word Ori imm h f v = imm_found word Ori imm h (ap (λ n. imm_op n (field word 26 6)) f) v
imm_row-found word Andi imm h f v = imm_found word Andi imm h (ap (λ n. imm_op n (field word 26 6)) f) v
imm_row-found word Slli imm h f v =
    imm_found word Slli imm h (ap (λ n. imm_op n (field word 26 6)) f ∙ ap (imm_op 1) v.high_is) v.amount_is
imm_row-found word Srli imm h f v =
    imm_found word Srli imm h (ap (λ n. imm_op n (field word 26 6)) f ∙ ap (imm_op 5) v.high_is) v.amount_is
imm_row-found word Srai imm h f v =
    imm_found word Srai imm h (ap (λ n. imm_op n (field word 26 6)) f ∙ ap (imm_op 5) v.high_is) v.amount_is
imm_row-found word Addiw imm h f v = word_imm_found word Addiw imm h (ap (λ n. word_imm_op n (funct7 word)) f) v
imm_row-found word Slliw imm h f v =
    word_imm_found word Slliw imm h (ap (λ n. word_imm_op n (funct7 word)) f ∙ ap (word_imm_op 1) v.high_is) v.amount_is
imm_row-found word Srliw imm h f v =
    word_imm_found word Srliw imm h (ap (λ n. word_imm_op n (funct7 word)) f ∙ ap (word_imm_op 5) v.high_is) v.amount_is
imm_row-found word Sraiw imm h f v =
    word_imm_found word Sraiw imm h (ap (λ n. word_imm_op n (funct7 word)) f ∙ ap (word_imm_op 5) v.high_is) v.amount_is

reg_found :
    (word : ℕ) (op : RegOp) → opcode word ≡ 0x33 → reg_op (funct7 word) (funct3 word) ≡ Some op
    → decoded word ≡ Some (Reg op (rd_of word) (rs1_of word) (rs2_of word))
unfolding decoded_as
reg_found word op h e = at word 0x33 _ h (ap (λ o. reg_as o word) e)

word_reg_found :
    (word : ℕ) (op : RegOp) → opcode word ≡ 0x3b → word_reg_op (funct7 word) (funct3 word) ≡ Some op
    → decoded word ≡ Some (Reg op (rd_of word) (rs1_of word) (rs2_of word))
unfolding decoded_as
word_reg_found word op h e = at word 0x3b _ h (ap (λ o. reg_as o word) e)

reg_row-found :
    (word : ℕ) (op : RegOp) → opcode word ≡ (reg_row op).opcode → funct3 word ≡ (reg_row op).funct3
    → funct7 word ≡ (reg_row op).funct7 → decoded word ≡ Some (Reg op (rd_of word) (rs1_of word) (rs2_of word))
reg_row-found word Add h f s = reg_found word Add h (ap (λ n. reg_op n (funct3 word)) s ∙ ap (reg_op 0x00) f)
reg_row-found word Sll h f s = reg_found word Sll h (ap (λ n. reg_op n (funct3 word)) s ∙ ap (reg_op 0x00) f)
reg_row-found word Slt h f s = reg_found word Slt h (ap (λ n. reg_op n (funct3 word)) s ∙ ap (reg_op 0x00) f)
reg_row-found word Sltu h f s = reg_found word Sltu h (ap (λ n. reg_op n (funct3 word)) s ∙ ap (reg_op 0x00) f)
reg_row-found word Xor h f s = reg_found word Xor h (ap (λ n. reg_op n (funct3 word)) s ∙ ap (reg_op 0x00) f)
reg_row-found word Srl h f s = reg_found word Srl h (ap (λ n. reg_op n (funct3 word)) s ∙ ap (reg_op 0x00) f)
reg_row-found word Or h f s = reg_found word Or h (ap (λ n. reg_op n (funct3 word)) s ∙ ap (reg_op 0x00) f)
reg_row-found word And h f s = reg_found word And h (ap (λ n. reg_op n (funct3 word)) s ∙ ap (reg_op 0x00) f)
reg_row-found word Sub h f s = reg_found word Sub h (ap (λ n. reg_op n (funct3 word)) s ∙ ap (reg_op 0x20) f)
reg_row-found word Sra h f s = reg_found word Sra h (ap (λ n. reg_op n (funct3 word)) s ∙ ap (reg_op 0x20) f)
reg_row-found word Mul h f s = reg_found word Mul h (ap (λ n. reg_op n (funct3 word)) s ∙ ap (reg_op 0x01) f)
reg_row-found word Mulh h f s = reg_found word Mulh h (ap (λ n. reg_op n (funct3 word)) s ∙ ap (reg_op 0x01) f)
reg_row-found word Mulhsu h f s = reg_found word Mulhsu h (ap (λ n. reg_op n (funct3 word)) s ∙ ap (reg_op 0x01) f)
reg_row-found word Mulhu h f s = reg_found word Mulhu h (ap (λ n. reg_op n (funct3 word)) s ∙ ap (reg_op 0x01) f)
reg_row-found word Div h f s = reg_found word Div h (ap (λ n. reg_op n (funct3 word)) s ∙ ap (reg_op 0x01) f)
reg_row-found word Divu h f s = reg_found word Divu h (ap (λ n. reg_op n (funct3 word)) s ∙ ap (reg_op 0x01) f)
reg_row-found word Rem h f s = reg_found word Rem h (ap (λ n. reg_op n (funct3 word)) s ∙ ap (reg_op 0x01) f)
reg_row-found word Remu h f s = reg_found word Remu h (ap (λ n. reg_op n (funct3 word)) s ∙ ap (reg_op 0x01) f)
reg_row-found word Addw h f s = word_reg_found word Addw h (ap (λ n. word_reg_op n (funct3 word)) s ∙ ap (word_reg_op 0x00) f)
reg_row-found word Sllw h f s = word_reg_found word Sllw h (ap (λ n. word_reg_op n (funct3 word)) s ∙ ap (word_reg_op 0x00) f)
reg_row-found word Srlw h f s = word_reg_found word Srlw h (ap (λ n. word_reg_op n (funct3 word)) s ∙ ap (word_reg_op 0x00) f)
reg_row-found word Subw h f s = word_reg_found word Subw h (ap (λ n. word_reg_op n (funct3 word)) s ∙ ap (word_reg_op 0x20) f)
reg_row-found word Sraw h f s = word_reg_found word Sraw h (ap (λ n. word_reg_op n (funct3 word)) s ∙ ap (word_reg_op 0x20) f)
reg_row-found word Mulw h f s = word_reg_found word Mulw h (ap (λ n. word_reg_op n (funct3 word)) s ∙ ap (word_reg_op 0x01) f)
reg_row-found word Divw h f s = word_reg_found word Divw h (ap (λ n. word_reg_op n (funct3 word)) s ∙ ap (word_reg_op 0x01) f)
reg_row-found word Divuw h f s = word_reg_found word Divuw h (ap (λ n. word_reg_op n (funct3 word)) s ∙ ap (word_reg_op 0x01) f)
reg_row-found word Remw h f s = word_reg_found word Remw h (ap (λ n. word_reg_op n (funct3 word)) s ∙ ap (word_reg_op 0x01) f)
reg_row-found word Remuw h f s = word_reg_found word Remuw h (ap (λ n. word_reg_op n (funct3 word)) s ∙ ap (word_reg_op 0x01) f)

ecall_word : decoded 0x00000073 ≡ Some Ecall
unfolding decoded decoded_as
ecall_word = refl

ebreak_word : decoded 0x00100073 ≡ Some Ebreak
unfolding decoded decoded_as
ebreak_word = refl

pub decoded-row : (word : ℕ) (i : Ins) → Table word i → decoded word ≡ Some i
unfolding decoded_as
decoded-row word (Lui rd top) t = at word 0x37 _ t.0 (let e : Lui (rd_of word) (u_top word) ≡ Lui rd top = cc in ap Some e)
decoded-row word (Auipc rd top) t =
    at word 0x17 _ t.0 (let e : Auipc (rd_of word) (u_top word) ≡ Auipc rd top = cc in ap Some e)
decoded-row word (Jal rd off) t =
    at word 0x6f _ t.0 (let e : Jal (rd_of word) (j_immediate word) ≡ Jal rd off = cc in ap Some e)
decoded-row word (Jalr rd rs1 off) t =
    let e : Jalr (rd_of word) (rs1_of word) (i_immediate word) ≡ Jalr rd rs1 off = cc in
    at word 0x67 _ t.0
    (ap (λ n. if n == 0 then Some (Jalr (rd_of word) (rs1_of word) (i_immediate word)) else None) t.1 ∙ ap Some e)
decoded-row word (Branch op rs1 rs2 off) t =
    let row : branch_op (funct3 word) ≡ Some op = ap branch_op t.1 ∙ branch_op-row op in
    let e : Branch op (rs1_of word) (rs2_of word) (b_immediate word) ≡ Branch op rs1 rs2 off = cc in
    at word 0x63 _ t.0
    (ap (option_map (λ o. Branch o (rs1_of word) (rs2_of word) (b_immediate word))) row ∙ ap Some e)
decoded-row word (Load op rd rs1 off) t =
    let row : load_op (funct3 word) ≡ Some op = ap load_op t.1 ∙ load_op-row op in
    let e : Load op (rd_of word) (rs1_of word) (i_immediate word) ≡ Load op rd rs1 off = cc in
    at word 0x03 _ t.0
    (ap (option_map (λ o. Load o (rd_of word) (rs1_of word) (i_immediate word))) row ∙ ap Some e)
decoded-row word (Store op rs1 rs2 off) t =
    let row : store_op (funct3 word) ≡ Some op = ap store_op t.1 ∙ store_op-row op in
    let e : Store op (rs1_of word) (rs2_of word) (s_immediate word) ≡ Store op rs1 rs2 off = cc in
    at word 0x23 _ t.0
    (ap (option_map (λ o. Store o (rs1_of word) (rs2_of word) (s_immediate word))) row ∙ ap Some e)
decoded-row word (Imm op rd rs1 imm) t =
    let e : Imm op (rd_of word) (rs1_of word) imm ≡ Imm op rd rs1 imm = cc in
    imm_row-found word op imm t.0 t.1 t.4 ∙ ap Some e
decoded-row word (Reg op rd rs1 rs2) t =
    let e : Reg op (rd_of word) (rs1_of word) (rs2_of word) ≡ Reg op rd rs1 rs2 = cc in
    reg_row-found word op t.0 t.1 t.2 ∙ ap Some e
decoded-row word (Atomic op wide aq rl rd rs1 rs2) t =
    let width : wide_at (funct3 word) ≡ Some wide = ap wide_at t.1 ∙ wide_at-row wide in
    let row : atomic_op (funct5 word) (rs2_of word) ≡ Some op =
    ap (λ n. atomic_op n (rs2_of word)) t.2
    ∙ atomic_op-row op (rs2_of word) (subst (MayHaveSource op) t.7 t.8) in
    let e : atomic_with wide op word ≡ Atomic op wide aq rl rd rs1 rs2 = cc in
    at word 0x2f _ t.0
    (ap (option_and_then (λ w. option_map (λ o. atomic_with w o word) (atomic_op (funct5 word) (rs2_of word)))) width
    ∙ ap (option_map (λ o. atomic_with wide o word)) row
    ∙ ap Some e)
decoded-row word (Fence fm pred succ rs1 rd) t =
    let gives : Ins = Fence (field word 28 4) (field word 24 4) (field word 20 4) (rs1_of word) (rd_of word) in
    let next : Ins = FenceI (field word 20 12) (rs1_of word) (rd_of word) in
    let e : Fence (field word 28 4) (field word 24 4) (field word 20 4) (rs1_of word) (rd_of word) ≡ Fence fm pred succ rs1 rd = cc in
    at word 0x0f _ t.0
    (ap (λ n. if n == 0 then Some gives else if n == 1 then Some next else None) t.1 ∙ ap Some e)
decoded-row word (FenceI imm rs1 rd) t =
    let gives : Ins = Fence (field word 28 4) (field word 24 4) (field word 20 4) (rs1_of word) (rd_of word) in
    let next : Ins = FenceI (field word 20 12) (rs1_of word) (rd_of word) in
    let e : FenceI (field word 20 12) (rs1_of word) (rd_of word) ≡ FenceI imm rs1 rd = cc in
    at word 0x0f _ t.0
    (ap (λ n. if n == 0 then Some gives else if n == 1 then Some next else None) t.1 ∙ ap Some e)
decoded-row word Ecall t = subst (λ w. decoded w ≡ Some Ecall) (sym t) ecall_word
decoded-row word Ebreak t = subst (λ w. decoded w ≡ Some Ebreak) (sym t) ebreak_word

-- the two are one, and no word is two instructions
pub decoded-table : (word : ℕ) (i : Ins) → (decoded word ≡ Some i) ↔ Table word i
decoded-table word i = (decoded-sound word i, decoded-row word i)

pub found_in_table :
    (word : ℕ) (answer : Option Ins) → answer ≡ decoded word → (i : Ins) → (answer ≡ Some i) ↔ Table word i
found_in_table word answer e i =
    ((λ h. decoded-sound word i (sym e ∙ h)), (λ h. e ∙ decoded-row word i h))

pub one_instruction : (word : ℕ) (i j : Ins) → Table word i → Table word j → i ≡ j
one_instruction word i j first second =
    found (λ k. i ≡ k) i j refl (sym (decoded-row word i first) ∙ decoded-row word j second)
