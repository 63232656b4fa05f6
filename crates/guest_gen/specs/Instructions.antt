-- The instructions of the program of a number; `docs/guest-machine.md`, "Generated programs", says in words what it does.
use Rattle.std.specs.Prelude.{ℕ, ◌%◌, true, false, List, [], ◌∷◌, ◌++◌, pos, negsuc}
use Rattle.std.specs.List.{flat_map, range_with_len}
use Rattle.flat_model.specs.declared.instructions.AtomicOp.TheVariants as atomic
use Rattle.flat_model.specs.declared.instructions.BranchOp.TheVariants.{Bne}
use Rattle.flat_model.specs.declared.instructions.ImmOp.TheVariants.{Addi}
use Rattle.flat_model.specs.declared.instructions.Ins.{Ins}
use Rattle.flat_model.specs.declared.instructions.Ins.TheVariants.{Lui, Jal, Branch, Imm, Reg, Atomic, Ecall}
use Rattle.flat_model.specs.declared.instructions.RegOp.TheVariants.{Mul}

-- x8 has the data's address, x6 the hart's number and 1, x9 the number of harts
abbrev pub start : List Ins
start = Lui 8 0x20000 ∷ Imm Addi 6 10 (pos 1) ∷ Imm Addi 9 11 (pos 0) ∷ Jal 0 (pos 4) ∷ []

-- section i adds i modulo 2,048, times x6, to the sum at x8
abbrev pub section : ℕ → List Ins
section i =
    Imm Addi 5 0 (pos (i % 2048)) ∷ Reg Mul 5 5 6 ∷ Atomic atomic.Add true false false 0 8 5 ∷ Jal 0 (pos 4) ∷ []

-- a hart counts itself behind the sum, and goes past the next part where it isn't the last
abbrev pub arrival : List Ins
arrival =
    Imm Addi 5 0 (pos 1) ∷ Imm Addi 7 8 (pos 8) ∷ Atomic atomic.Add true false false 28 7 5
    ∷ Imm Addi 9 9 (negsuc 0) ∷ Branch Bne 28 9 (pos 24) ∷ []

-- the last hart writes the sum
abbrev pub last_hart : List Ins
last_hart =
    Imm Addi 10 0 (pos 1) ∷ Imm Addi 11 8 (pos 0) ∷ Imm Addi 12 0 (pos 8) ∷ Imm Addi 17 0 (pos 64) ∷ Ecall ∷ []

-- every hart exits with 0
abbrev pub every_hart : List Ins
every_hart = Imm Addi 10 0 (pos 0) ∷ Imm Addi 17 0 (pos 93) ∷ Ecall ∷ []

-- the sections from one on, so many
abbrev pub sections : ℕ → ℕ → List Ins
sections from n = flat_map section (range_with_len from n)

unfoldable pub instructions : ℕ → List Ins
instructions n = start ++ (sections 1 n ++ (arrival ++ (last_hart ++ every_hart)))
