-- Each column of the listings, read the other way round, is the row's number.
use Rattle.std.proofs.Common.{◌≡◌, ℕ, Bool, true, false, Some, arith, refl, ap, ◌∙◌}
use Rattle.flat_model.specs.declared.instructions.BranchOp.{BranchOp}
use Rattle.flat_model.specs.declared.instructions.BranchOp.TheVariants.{Beq, Bne, Blt, Bge, Bltu, Bgeu}
use Rattle.flat_model.specs.declared.instructions.LoadOp.{LoadOp}
use Rattle.flat_model.specs.declared.instructions.LoadOp.TheVariants.{Lb, Lh, Lw, Ld, Lbu, Lhu, Lwu}
use Rattle.flat_model.specs.declared.instructions.StoreOp.{StoreOp}
use Rattle.flat_model.specs.declared.instructions.StoreOp.TheVariants.{Sb, Sh, Sw, Sd}
use Rattle.flat_model.specs.declared.instructions.RegOp.{RegOp}
use Rattle.flat_model.specs.declared.instructions.RegOp.TheVariants.{Add, Sub, Sll, Slt, Sltu, Xor, Srl, Sra, Or, And, Mul, Mulh, Mulhsu}
use Rattle.flat_model.specs.declared.instructions.RegOp.TheVariants.{Mulhu, Div, Divu, Rem, Remu, Addw, Subw, Sllw, Srlw, Sraw, Mulw}
use Rattle.flat_model.specs.declared.instructions.RegOp.TheVariants.{Divw, Divuw, Remw, Remuw}
use Rattle.flat_model.specs.declared.instructions.AtomicOp.{AtomicOp}
use Rattle.flat_model.specs.declared.instructions.AtomicOp.TheVariants.{Lr, Sc, Swap, Add as AmoAdd, Xor as AmoXor, And as AmoAnd}
use Rattle.flat_model.specs.declared.instructions.AtomicOp.TheVariants.{Or as AmoOr, Min, Max, Minu, Maxu}
use Rattle.flat_model.specs.Rows.{branch_op, branch_funct3, load_op, load_funct3, store_op, store_funct3, base_op, other_op, muldiv_op}
use Rattle.flat_model.specs.Rows.{reg_op, word_base_op, word_other_op, word_muldiv_op, word_reg_op, reg_row, atomic_op, atomic_funct5}
use Rattle.flat_model.specs.Rows.{MayHaveSource, wide_at, width_funct3}
use Rattle.rv_decode.proofs.Choices.{found, nothing, choose}

pub branch_op-sound : (n : ℕ) (op : BranchOp) → branch_op n ≡ Some op → n ≡ branch_funct3 op
branch_op-sound n op e = grind arith

pub branch_op-row : (op : BranchOp) → branch_op (branch_funct3 op) ≡ Some op
branch_op-row Beq = refl
branch_op-row Bne = refl
branch_op-row Blt = refl
branch_op-row Bge = refl
branch_op-row Bltu = refl
branch_op-row Bgeu = refl

pub load_op-sound : (n : ℕ) (op : LoadOp) → load_op n ≡ Some op → n ≡ load_funct3 op
load_op-sound n op e = grind arith

pub load_op-row : (op : LoadOp) → load_op (load_funct3 op) ≡ Some op
load_op-row Lb = refl
load_op-row Lh = refl
load_op-row Lw = refl
load_op-row Ld = refl
load_op-row Lbu = refl
load_op-row Lhu = refl
load_op-row Lwu = refl

pub store_op-sound : (n : ℕ) (op : StoreOp) → store_op n ≡ Some op → n ≡ store_funct3 op
store_op-sound n op e = grind arith

pub store_op-row : (op : StoreOp) → store_op (store_funct3 op) ≡ Some op
store_op-row Sb = refl
store_op-row Sh = refl
store_op-row Sw = refl
store_op-row Sd = refl

pub wide_at-sound : (n : ℕ) (wide : Bool) → wide_at n ≡ Some wide → n ≡ width_funct3 wide
wide_at-sound n wide e = grind arith

-- the row of an operation of OP and OP-32
abbrev IsRow : ℕ → ℕ → ℕ → RegOp → Type 0
IsRow opcode funct3 funct7 op =
    (opcode ≡ (reg_row op).opcode) × (funct3 ≡ (reg_row op).funct3) × (funct7 ≡ (reg_row op).funct7)

base_op-sound : (n : ℕ) (op : RegOp) → base_op n ≡ Some op → IsRow 0x33 n 0x00 op
base_op-sound n op =
    let P : RegOp → Type 0 = λ o. IsRow 0x33 n 0x00 o in
    choose P n 0 _ _ op (λ h. found P Add op (refl, h, refl))
    (choose P n 1 _ _ op (λ h. found P Sll op (refl, h, refl))
    (choose P n 2 _ _ op (λ h. found P Slt op (refl, h, refl))
    (choose P n 3 _ _ op (λ h. found P Sltu op (refl, h, refl))
    (choose P n 4 _ _ op (λ h. found P Xor op (refl, h, refl))
    (choose P n 5 _ _ op (λ h. found P Srl op (refl, h, refl))
    (choose P n 6 _ _ op (λ h. found P Or op (refl, h, refl))
    (choose P n 7 _ _ op (λ h. found P And op (refl, h, refl))
    (nothing P op))))))))

other_op-sound : (n : ℕ) (op : RegOp) → other_op n ≡ Some op → IsRow 0x33 n 0x20 op
other_op-sound n op =
    let P : RegOp → Type 0 = λ o. IsRow 0x33 n 0x20 o in
    choose P n 0 _ _ op (λ h. found P Sub op (refl, h, refl))
    (choose P n 5 _ _ op (λ h. found P Sra op (refl, h, refl))
    (nothing P op))

muldiv_op-sound : (n : ℕ) (op : RegOp) → muldiv_op n ≡ Some op → IsRow 0x33 n 0x01 op
muldiv_op-sound n op =
    let P : RegOp → Type 0 = λ o. IsRow 0x33 n 0x01 o in
    choose P n 0 _ _ op (λ h. found P Mul op (refl, h, refl))
    (choose P n 1 _ _ op (λ h. found P Mulh op (refl, h, refl))
    (choose P n 2 _ _ op (λ h. found P Mulhsu op (refl, h, refl))
    (choose P n 3 _ _ op (λ h. found P Mulhu op (refl, h, refl))
    (choose P n 4 _ _ op (λ h. found P Div op (refl, h, refl))
    (choose P n 5 _ _ op (λ h. found P Divu op (refl, h, refl))
    (choose P n 6 _ _ op (λ h. found P Rem op (refl, h, refl))
    (choose P n 7 _ _ op (λ h. found P Remu op (refl, h, refl))
    (nothing P op))))))))

word_base_op-sound : (n : ℕ) (op : RegOp) → word_base_op n ≡ Some op → IsRow 0x3b n 0x00 op
word_base_op-sound n op =
    let P : RegOp → Type 0 = λ o. IsRow 0x3b n 0x00 o in
    choose P n 0 _ _ op (λ h. found P Addw op (refl, h, refl))
    (choose P n 1 _ _ op (λ h. found P Sllw op (refl, h, refl))
    (choose P n 5 _ _ op (λ h. found P Srlw op (refl, h, refl))
    (nothing P op)))

word_other_op-sound : (n : ℕ) (op : RegOp) → word_other_op n ≡ Some op → IsRow 0x3b n 0x20 op
word_other_op-sound n op =
    let P : RegOp → Type 0 = λ o. IsRow 0x3b n 0x20 o in
    choose P n 0 _ _ op (λ h. found P Subw op (refl, h, refl))
    (choose P n 5 _ _ op (λ h. found P Sraw op (refl, h, refl))
    (nothing P op))

word_muldiv_op-sound : (n : ℕ) (op : RegOp) → word_muldiv_op n ≡ Some op → IsRow 0x3b n 0x01 op
word_muldiv_op-sound n op =
    let P : RegOp → Type 0 = λ o. IsRow 0x3b n 0x01 o in
    choose P n 0 _ _ op (λ h. found P Mulw op (refl, h, refl))
    (choose P n 4 _ _ op (λ h. found P Divw op (refl, h, refl))
    (choose P n 5 _ _ op (λ h. found P Divuw op (refl, h, refl))
    (choose P n 6 _ _ op (λ h. found P Remw op (refl, h, refl))
    (choose P n 7 _ _ op (λ h. found P Remuw op (refl, h, refl))
    (nothing P op)))))

pub reg_op-sound : (funct7 funct3 : ℕ) (op : RegOp) → reg_op funct7 funct3 ≡ Some op → IsRow 0x33 funct3 funct7 op
reg_op-sound funct7 funct3 op =
    let P : RegOp → Type 0 = λ o. IsRow 0x33 funct3 funct7 o in
    choose P funct7 0x00 _ _ op (λ h e. let row : IsRow 0x33 funct3 0x00 op = base_op-sound funct3 op e in (row.0, row.1, h ∙ row.2))
    (choose P funct7 0x01 _ _ op (λ h e. let row : IsRow 0x33 funct3 0x01 op = muldiv_op-sound funct3 op e in (row.0, row.1, h ∙ row.2))
    (choose P funct7 0x20 _ _ op (λ h e. let row : IsRow 0x33 funct3 0x20 op = other_op-sound funct3 op e in (row.0, row.1, h ∙ row.2))
    (nothing P op)))

pub word_reg_op-sound : (funct7 funct3 : ℕ) (op : RegOp) → word_reg_op funct7 funct3 ≡ Some op → IsRow 0x3b funct3 funct7 op
word_reg_op-sound funct7 funct3 op =
    let P : RegOp → Type 0 = λ o. IsRow 0x3b funct3 funct7 o in
    choose P funct7 0x00 _ _ op (λ h e. let row : IsRow 0x3b funct3 0x00 op = word_base_op-sound funct3 op e in (row.0, row.1, h ∙ row.2))
    (choose P funct7 0x01 _ _ op (λ h e. let row : IsRow 0x3b funct3 0x01 op = word_muldiv_op-sound funct3 op e in (row.0, row.1, h ∙ row.2))
    (choose P funct7 0x20 _ _ op (λ h e. let row : IsRow 0x3b funct3 0x20 op = word_other_op-sound funct3 op e in (row.0, row.1, h ∙ row.2))
    (nothing P op)))

pub atomic_op-sound :
    (n rs2 : ℕ) (op : AtomicOp) → atomic_op n rs2 ≡ Some op → (n ≡ atomic_funct5 op) × MayHaveSource op rs2
atomic_op-sound n rs2 op =
    let P : AtomicOp → Type 0 = λ o. (n ≡ atomic_funct5 o) × MayHaveSource o rs2 in
    choose P n 0x00 _ _ op (λ h. found P AmoAdd op (h, tt))
    (choose P n 0x01 _ _ op (λ h. found P Swap op (h, tt))
    (choose P n 0x02 _ _ op (λ h. choose P rs2 0 _ _ op (λ z. found P Lr op (h, z)) (nothing P op))
    (choose P n 0x03 _ _ op (λ h. found P Sc op (h, tt))
    (choose P n 0x04 _ _ op (λ h. found P AmoXor op (h, tt))
    (choose P n 0x08 _ _ op (λ h. found P AmoOr op (h, tt))
    (choose P n 0x0c _ _ op (λ h. found P AmoAnd op (h, tt))
    (choose P n 0x10 _ _ op (λ h. found P Min op (h, tt))
    (choose P n 0x14 _ _ op (λ h. found P Max op (h, tt))
    (choose P n 0x18 _ _ op (λ h. found P Minu op (h, tt))
    (choose P n 0x1c _ _ op (λ h. found P Maxu op (h, tt))
    (nothing P op)))))))))))

pub atomic_op-row : (op : AtomicOp) (rs2 : ℕ) → MayHaveSource op rs2 → atomic_op (atomic_funct5 op) rs2 ≡ Some op
atomic_op-row AmoAdd rs2 h = refl
atomic_op-row Swap rs2 h = refl
atomic_op-row Lr rs2 h = ap (λ r. atomic_op 0x02 r) h
atomic_op-row Sc rs2 h = refl
atomic_op-row AmoXor rs2 h = refl
atomic_op-row AmoOr rs2 h = refl
atomic_op-row AmoAnd rs2 h = refl
atomic_op-row Min rs2 h = refl
atomic_op-row Max rs2 h = refl
atomic_op-row Minu rs2 h = refl
atomic_op-row Maxu rs2 h = refl

pub wide_at-row : (wide : Bool) → wide_at (width_funct3 wide) ≡ Some wide
wide_at-row true = refl
wide_at-row false = refl
