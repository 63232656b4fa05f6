-- Kinds with what they keep: a kind asks for something exactly where it has a quota.
use Rattle.std.specs.Prelude.{ℕ, suc, refl}
use Rattle.std.proofs.Common.{sym}
use Rattle.std.proofs.Math.Dec.{eqb-suc-zero}
use Rattle.flat_model.specs.declared.plugins.Ask.{Ask}
use Rattle.flat_model.specs.declared.plugins.Ask.TheVariants.{Stay, Reset, Uninstall}
use Rattle.flat_model.specs.declared.plugins.Kind.{Kind}
use Rattle.flat_model.specs.declared.plugins.KindName.{KindName}
use Rattle.flat_model.specs.Asks.{asked_at}

-- a kind without a quota
abbrev pub staying : KindName → Kind
staying name = record { name = name; quota = 0; ask = Stay; asks_at_quota = refl }

-- a kind that asks at the call after q calls
abbrev pub resetting : KindName → ℕ → Kind
resetting name q = record { name = name; quota = suc q; ask = Reset; asks_at_quota = sym (eqb-suc-zero q) }

abbrev pub uninstalling : KindName → ℕ → Kind
uninstalling name q = record { name = name; quota = suc q; ask = Uninstall; asks_at_quota = sym (eqb-suc-zero q) }

-- what a box of a kind asks at its n-th call, from 1
abbrev pub ask_at : Kind → ℕ → Ask
ask_at kind n = asked_at kind.quota kind.ask n
