-- The bytes that stand for choices in a journal file, and the choice that a byte stands for.
use Rattle.std.specs.Prelude.{ℕ, zero, suc, Option, Some, None}
use Rattle.flat_model.specs.declared.plugins.Op.{Op}
use Rattle.flat_model.specs.declared.plugins.Op.TheVariants as ops
use Rattle.flat_model.specs.declared.plugins.Cond.{Cond}
use Rattle.flat_model.specs.declared.plugins.Cond.TheVariants as conds
use Rattle.flat_model.specs.declared.plugins.Ask.{Ask}
use Rattle.flat_model.specs.declared.plugins.Ask.TheVariants as asks

abbrev pub op_byte : Op → ℕ
op_byte ops.Add = 0
op_byte ops.Store = 1

abbrev pub op_of : ℕ → Option Op
op_of zero = Some ops.Add
op_of (suc zero) = Some ops.Store
op_of (suc (suc b)) = None

abbrev pub cond_byte : Cond → ℕ
cond_byte conds.Never = 0
cond_byte conds.Always = 1
cond_byte conds.Eq = 2
cond_byte conds.Ne = 3
cond_byte conds.Lt = 4
cond_byte conds.Le = 5
cond_byte conds.Gt = 6
cond_byte conds.Ge = 7

abbrev pub cond_of : ℕ → Option Cond
cond_of zero = Some conds.Never
cond_of (suc zero) = Some conds.Always
cond_of (suc (suc zero)) = Some conds.Eq
cond_of (suc (suc (suc zero))) = Some conds.Ne
cond_of (suc (suc (suc (suc zero)))) = Some conds.Lt
cond_of (suc (suc (suc (suc (suc zero))))) = Some conds.Le
cond_of (suc (suc (suc (suc (suc (suc zero)))))) = Some conds.Gt
cond_of (suc (suc (suc (suc (suc (suc (suc zero))))))) = Some conds.Ge
cond_of (suc (suc (suc (suc (suc (suc (suc (suc b)))))))) = None

abbrev pub ask_byte : Ask → ℕ
ask_byte asks.Stay = 0
ask_byte asks.Reset = 1
ask_byte asks.Uninstall = 2
