-- What a box asks for at its quota.
use Rattle.std.specs.Prelude.{ℕ, ◌==◌, if◌then◌else◌, Bool, true, false}
use Rattle.flat_model.specs.declared.plugins.Ask.{Ask}
use Rattle.flat_model.specs.declared.plugins.Ask.TheVariants.{Stay, Reset, Uninstall}

-- whether nothing is asked for
abbrev pub stays : Ask → Bool
stays Stay = true
stays Reset = false
stays Uninstall = false

-- what a box asks at its n-th call, from 1: what it asks for at the call of its quota, and else nothing
abbrev pub asked_at : ℕ → Ask → ℕ → Ask
asked_at quota ask n = if n == quota then ask else Stay
