-- Which acts call a box.
use Rattle.std.specs.Prelude.{ℕ, Bool, true, false, List, count_by}
use Rattle.flat_model.specs.declared.plugins.Act.{Act}
use Rattle.flat_model.specs.declared.plugins.Act.TheVariants.{Call, Inline, Cond}
use Rattle.flat_model.specs.declared.plugins.Sub.{Sub}

-- whether an act calls a box
abbrev pub calls : Act → Bool
calls (Call kind) = true
calls (Inline op entry imm) = false
calls (Cond cond entry imm then_store kind) = true

-- how many subscriptions call
abbrev pub calling : List Sub → ℕ
calling subs = count_by (λ s. calls s.act) subs
