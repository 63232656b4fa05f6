-- A kind is what its name, its quota and its ask make it.
use Rattle.std.proofs.Common.{◌≡◌, ℕ, zero, suc, eqb, Bool, true, false, Result, Ok, refl, sym, ap, ◌∙◌}
use Rattle.std.proofs.Math.Bool.{Bool-set}
use Rattle.std.proofs.Math.Dec.{eqb-suc-zero}
use Rattle.flat_model.specs.Asks.{stays}
use Rattle.flat_model.specs.declared.plugins.Ask.{Ask}
use Rattle.flat_model.specs.declared.plugins.Ask.TheVariants.{Stay, Reset, Uninstall}
use Rattle.flat_model.specs.declared.plugins.Kind.{Kind}
use Rattle.flat_model.specs.declared.plugins.KindName.{KindName}
use Rattle.journal_file.specs.declared.refusal.Fault.{Fault}
use Rattle.journal_file.specs.Table.{ask_byte}
use Rattle.journal_file.specs.Reading.{kind_of}

abbrev made : KindName → (q : ℕ) (a : Ask) → stays a ≡ eqb q 0 → Result Kind Fault
made name q a given = Ok (record { name = name; quota = q; ask = a; asks_at_quota = given })

one_way : (a b : Bool) (p q : a ≡ b) → p ≡ q
one_way a b = Bool-set a b

pub kind_of-made : (name : KindName) (q : ℕ) (a : Ask) (given : stays a ≡ eqb q 0) → kind_of name q (ask_byte a) ≡ made name q a given
kind_of-made name zero Stay given = ap (made name 0 Stay) (one_way true true refl given)
kind_of-made name zero Reset given = absurd cc
kind_of-made name zero Uninstall given = absurd cc
kind_of-made name (suc q) Stay given = let no : true ≡ false = given ∙ eqb-suc-zero q in absurd cc
kind_of-made name (suc q) Reset given = ap (made name (suc q) Reset) (one_way false (eqb (suc q) 0) (sym (eqb-suc-zero q)) given)
kind_of-made name (suc q) Uninstall given = ap (made name (suc q) Uninstall) (one_way false (eqb (suc q) 0) (sym (eqb-suc-zero q)) given)
