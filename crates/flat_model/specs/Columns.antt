-- What inline acts and conditions do with a hart's entries, which are unsigned 64-bit numbers. A column is
-- the list of a hart's entries.
use Rattle.std.specs.Prelude.{ℕ, ◌+◌, ◌%◌, ◌^◌, ◌==◌, Bool, true, false, not, nat_lt, nat_le, List, slice_index}
use Rattle.std.specs.Prelude.{slice_set, sum_by}
use Rattle.std.specs.Prelude.{replicate}
use Rattle.flat_model.specs.declared.plugins.Op.{Op}
use Rattle.flat_model.specs.declared.plugins.Op.TheVariants.{Add, Store}
use Rattle.flat_model.specs.declared.plugins.Cond.{Cond}
use Rattle.flat_model.specs.declared.plugins.Cond.TheVariants.{Never, Always, Eq, Ne, Lt, Le, Gt, Ge}

-- what an operation makes of an entry
abbrev pub op_result : Op → ℕ → ℕ → ℕ
op_result Add entry imm = (entry + imm) % 2 ^ 64
op_result Store entry imm = imm

-- whether a condition holds between an entry and an immediate
abbrev pub holds : Cond → ℕ → ℕ → Bool
holds Never entry imm = false
holds Always entry imm = true
holds Eq entry imm = entry == imm
holds Ne entry imm = not (entry == imm)
holds Lt entry imm = nat_lt entry imm
holds Le entry imm = nat_le entry imm
holds Gt entry imm = nat_lt imm entry
holds Ge entry imm = nat_le imm entry

-- a column of a set that has just been registered
abbrev pub opening_column : ℕ → List ℕ
opening_column entries = replicate entries 0

-- a column after an inline act
abbrev pub after_act : Op → ℕ → ℕ → List ℕ → List ℕ
after_act op entry imm column = slice_set column entry (op_result op (slice_index column entry) imm)

-- an entry summed over the harts
abbrev pub entry_sum : ℕ → List (List ℕ) → ℕ
entry_sum entry columns = sum_by (λ column. slice_index column entry) columns % 2 ^ 64
