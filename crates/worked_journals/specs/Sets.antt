-- Sets of subscriptions, under the plug-in words that spell them.
use Rattle.std.specs.Prelude.{ℕ, ◌-◌, ◌^◌, List, [], ◌∷◌}
use Rattle.flat_model.specs.declared.plugins.Act.{Act}
use Rattle.flat_model.specs.declared.plugins.Act.TheVariants.{Call, Inline}
use Rattle.flat_model.specs.declared.plugins.Filter.{Filter}
use Rattle.flat_model.specs.declared.plugins.KindName.TheVariants.{Counts, Hot, Mem}
use Rattle.flat_model.specs.declared.plugins.Op.TheVariants.{Add}
use Rattle.flat_model.specs.declared.plugins.SetSpec.{SetSpec}
use Rattle.flat_model.specs.declared.plugins.Sub.{Sub}
use Rattle.flat_model.specs.declared.limits.TheConstants.{KIND_BLOCK, KIND_INSN, KIND_MEM}
use Rattle.flat_model.specs.Kinds.{staying, resetting, uninstalling}

-- the kinds with these bits, at all addresses, of all classes and both directions
abbrev pub of_kinds : ℕ → Filter
of_kinds kinds = record { kinds = kinds; lo = 0; hi = 2 ^ 64 - 1; classes = 511; rw = 3 }

abbrev pub sub : ℕ → Act → Sub
sub kinds act = record { filter = of_kinds kinds; act = act }

abbrev pub set : ℕ → List Sub → SetSpec
set entries subs = record { entries = entries; subs = subs }

-- counts
abbrev pub counts : SetSpec
counts = set 0 (sub 127 (Call (staying Counts)) ∷ [])

-- hot
abbrev pub hot : SetSpec
hot = set 0 (sub KIND_BLOCK (Call (staying Hot)) ∷ [])

-- mem
abbrev pub mem : SetSpec
mem = set 0 (sub KIND_MEM (Call (staying Mem)) ∷ [])

-- add:0:1
abbrev pub adding : SetSpec
adding = set 1 (sub KIND_INSN (Inline Add 0 1) ∷ [])

-- counts,kinds=insn,quota=N,ask=uninstall and the same with ask=reset, where N is n, at least 1
abbrev pub leaving_after : ℕ → SetSpec
leaving_after n = set 0 (sub KIND_INSN (Call (uninstalling Counts (n - 1))) ∷ [])

abbrev pub resetting_after : ℕ → SetSpec
resetting_after n = set 0 (sub KIND_INSN (Call (resetting Counts (n - 1))) ∷ [])

-- counts,kinds=insn,quota=N,ask=uninstall+counts,kinds=insn,quota=M,ask=reset
abbrev pub leaving_or_resetting : ℕ → ℕ → SetSpec
leaving_or_resetting n m =
    set 0 (sub KIND_INSN (Call (uninstalling Counts (n - 1))) ∷ sub KIND_INSN (Call (resetting Counts (m - 1))) ∷ [])
