-- The fields of the program's instructions are in range.
use Rattle.std.proofs.Common.{◌≡◌, ◌<◌, ◌≤◌, ◌%◌, ◌+◌, ℕ, zero, suc, List, [], ◌∷◌, ◌++◌, ℤ, pos, negsuc}
use Rattle.std.proofs.Common.{refl, arith, rules, All}
use Rattle.std.proofs.lemmas.Int.{ints}
use Rattle.std.proofs.lemmas.List.Elements.{All-append, All-from_recursion}
use Rattle.flat_model.specs.declared.instructions.AtomicOp.TheVariants as atomic
use Rattle.flat_model.specs.declared.instructions.ImmOp.TheVariants.{Addi}
use Rattle.flat_model.specs.declared.instructions.Ins.{Ins}
use Rattle.flat_model.specs.declared.instructions.Ins.TheVariants.{Jal, Imm, Atomic}
use Rattle.flat_model.specs.Instruction.{IsInRange}
use Rattle.guest_gen.specs.Instructions.{start, section, sections, arrival, last_hart, every_hart, instructions}

abbrev Are : List Ins → Type 0
Are code = All IsInRange code

adds : (rd rs1 n : ℕ) → rd < 32 → rs1 < 32 → n < 2048 → IsInRange (Imm Addi rd rs1 (pos n))
adds rd rs1 n low other small = (low, other, (omega (arith, ints), omega (arith, ints)))

takes_one : IsInRange (Imm Addi 9 9 (negsuc 0))
takes_one = (omega arith, omega arith, (omega (arith, ints), omega (arith, ints)))

jumps : IsInRange (Jal 0 (pos 4))
jumps = (omega arith, ((omega (arith, ints), omega (arith, ints)), search rules))

start_in_range : Are start
start_in_range =
    All-from_recursion IsInRange start (
      (omega arith, omega arith),
      (adds 6 10 1 (omega arith) (omega arith) (omega arith), (adds 9 11 0 (omega arith) (omega arith) (omega arith), (jumps, tt))),
    )

section_in_range : (i : ℕ) → Are (section i)
section_in_range i =
    All-from_recursion IsInRange (section i) (
      adds 5 0 (i % 2048) (omega arith) (omega arith) (omega arith),
      ((omega arith, omega arith, omega arith), ((omega arith, omega arith, omega arith, search rules), (jumps, tt))),
    )

sections_in_range : (from n : ℕ) → Are (sections from n)
sections_in_range from zero = All-from_recursion IsInRange [] tt
sections_in_range from (suc n) =
    All-append IsInRange (section from) (sections (from + 1) n) (section_in_range from) (sections_in_range (from + 1) n)

arrival_in_range : Are arrival
arrival_in_range =
    All-from_recursion IsInRange arrival (
      adds 5 0 1 (omega arith) (omega arith) (omega arith),
      (
        adds 7 8 8 (omega arith) (omega arith) (omega arith),
        (
          (omega arith, omega arith, omega arith, search rules),
          (takes_one, ((omega arith, omega arith, ((omega (arith, ints), omega (arith, ints)), search rules)), tt)),
        ),
      ),
    )

last_in_range : Are last_hart
last_in_range =
    All-from_recursion IsInRange last_hart (
      adds 10 0 1 (omega arith) (omega arith) (omega arith),
      (
        adds 11 8 0 (omega arith) (omega arith) (omega arith),
        (
          adds 12 0 8 (omega arith) (omega arith) (omega arith),
          (adds 17 0 64 (omega arith) (omega arith) (omega arith), (tt, tt)),
        ),
      ),
    )

every_in_range : Are every_hart
every_in_range =
    All-from_recursion IsInRange every_hart (
      adds 10 0 0 (omega arith) (omega arith) (omega arith),
      (adds 17 0 93 (omega arith) (omega arith) (omega arith), (tt, tt)),
    )

pub all_in_range : (n : ℕ) → Are (instructions n)
unfolding instructions
all_in_range n =
    All-append IsInRange start (sections 1 n ++ (arrival ++ (last_hart ++ every_hart))) start_in_range
    (All-append IsInRange (sections 1 n) (arrival ++ (last_hart ++ every_hart)) (sections_in_range 1 n)
    (All-append IsInRange arrival (last_hart ++ every_hart) arrival_in_range
    (All-append IsInRange last_hart every_hart last_in_range every_in_range)))
