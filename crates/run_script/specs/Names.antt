-- The names of kinds, conditions, events, classes, directions and asks, each beside what it stands for. An event and a
-- class have the bit of their filter.
use Rattle.std.specs.Prelude.{ℕ, codes, bit_or, bytes_eq, if◌then◌else◌, List, [], ◌∷◌, Option, Some, None, option_and_then}
use Rattle.flat_model.specs.declared.plugins.KindName.{KindName}
use Rattle.flat_model.specs.declared.plugins.KindName.TheVariants.{Counts, Hot, Mem, Exec, Classes, Pages}
use Rattle.flat_model.specs.declared.plugins.Cond.{Cond}
use Rattle.flat_model.specs.declared.plugins.Cond.TheVariants.{Never, Always, Eq, Ne, Lt, Le, Gt, Ge}
use Rattle.flat_model.specs.declared.plugins.Ask.{Ask}
use Rattle.flat_model.specs.declared.plugins.Ask.TheVariants.{Reset, Uninstall}
use Rattle.flat_model.specs.declared.limits.TheConstants.{KIND_INIT, KIND_BLOCK, KIND_INSN, KIND_MEM, KIND_SYS, KIND_SYSRET, KIND_EXIT}
use Rattle.flat_model.specs.declared.limits.TheConstants.{READS, WRITES, READS_AND_WRITES}
use Rattle.run_script.specs.declared.names.Names.{Names}
use Rattle.run_script.specs.declared.names.Names.TheVariants as names
use Rattle.run_script.specs.Bytes.{slash, pieces}

abbrev pub kind_names : List (KindName × List ℕ)
kind_names =
    (Counts, codes "counts") ∷ (Hot, codes "hot") ∷ (Mem, codes "mem") ∷ (Exec, codes "exec")
    ∷ (Classes, codes "classes") ∷ (Pages, codes "pages") ∷ []

abbrev pub cond_names : List (Cond × List ℕ)
cond_names =
    (Never, codes "never") ∷ (Always, codes "always") ∷ (Eq, codes "eq") ∷ (Ne, codes "ne")
    ∷ (Lt, codes "lt") ∷ (Le, codes "le") ∷ (Gt, codes "gt") ∷ (Ge, codes "ge") ∷ []

abbrev pub event_names : List (ℕ × List ℕ)
event_names =
    (KIND_INIT, codes "init") ∷ (KIND_BLOCK, codes "block") ∷ (KIND_INSN, codes "insn") ∷ (KIND_MEM, codes "mem")
    ∷ (KIND_SYS, codes "sys") ∷ (KIND_SYSRET, codes "sysret") ∷ (KIND_EXIT, codes "exit") ∷ []

abbrev pub class_names : List (ℕ × List ℕ)
class_names =
    (1, codes "alu") ∷ (2, codes "muldiv") ∷ (4, codes "load") ∷ (8, codes "store") ∷ (16, codes "branch")
    ∷ (32, codes "jump") ∷ (64, codes "atomic") ∷ (128, codes "system") ∷ (256, codes "illegal") ∷ []

-- loads, stores or both
abbrev pub rw_names : List (ℕ × List ℕ)
rw_names = (READS, codes "r") ∷ (WRITES, codes "w") ∷ (READS_AND_WRITES, codes "rw") ∷ []

-- what is asked for at a quota
abbrev pub ask_names : List (Ask × List ℕ)
ask_names = (Reset, codes "reset") ∷ (Uninstall, codes "uninstall") ∷ []

-- what a text names in a table
abbrev pub named : {A : Type 0} → List (A × List ℕ) → List ℕ → Option A
named [] text = None
named (row ∷ rows) text = if bytes_eq text row.1 then Some row.0 else named rows text

abbrev pub kind_named : List ℕ → Option KindName
kind_named text = named kind_names text

abbrev pub cond_named : List ℕ → Option Cond
cond_named text = named cond_names text

abbrev pub names_of : Names → List (ℕ × List ℕ)
names_of names.Events = event_names
names_of names.Classes = class_names

-- how many bits a list of names has room for
abbrev pub width : Names → ℕ
width names.Events = 8
width names.Classes = 16

abbrev pub bit_named : Names → List ℕ → Option ℕ
bit_named names text = named (names_of names) text

-- some bits and those of more names
abbrev pub mask_from : Names → ℕ → List (List ℕ) → Option ℕ
mask_from names bits [] = Some bits
mask_from names bits (text ∷ more) = option_and_then (λ bit. mask_from names (bit_or bits bit) more) (bit_named names text)

-- the bits of the names between slashes
abbrev pub mask : Names → List ℕ → Option ℕ
mask names text = mask_from names 0 (pieces slash text)
