-- The printed texts of a run and its status; `docs/top-call.md` lists them.
use Rattle.std.specs.Prelude.{ℕ, zero, suc, ◌+◌, ◌*◌, nat_lt, ◌||◌, Bool, true, false, if◌then◌else◌, List, []}
use Rattle.std.specs.Prelude.{◌∷◌, ◌++◌, codes}
use Rattle.std.specs.Prelude.{Option, Some, None, ℤ, pos}
use Rattle.std.specs.List.{list_any}
use Rattle.std.specs.Fmt.{decimal, signed_decimal}
use Rattle.flat_model.specs.Fields.{field}
use Rattle.flat_model.specs.declared.events.Ending.{Ending}
use Rattle.flat_model.specs.declared.events.Ending.TheVariants.{Exited, Group, Fault, Limit}
use Rattle.flat_model.specs.declared.events.FaultKind.{FaultKind}
use Rattle.flat_model.specs.declared.events.FaultKind.TheVariants.{Fetch, Illegal, MisalignedJump, MisalignedAtomic, Load, Store, Break}
use Rattle.flat_model.specs.World.{HartState}

-- a hexadecimal digit, in lower case
abbrev pub hex_digit : ℕ → ℕ
hex_digit n = if nat_lt n 10 then 48 + n else 87 + n

-- the last `len` hexadecimal digits of a number, one for each four bits
unfoldable pub hex : ℕ → ℕ → List ℕ
hex zero n = []
hex (suc len) n = hex_digit (field n (4 * len) 4) ∷ hex len n

abbrev pub fault_name : FaultKind → List ℕ
fault_name Fetch = codes "fetch"
fault_name Illegal = codes "illegal"
fault_name MisalignedJump = codes "jump"
fault_name MisalignedAtomic = codes "atomic"
fault_name Load = codes "load"
fault_name Store = codes "store"
fault_name Break = codes "break"

-- the group's code; a hart has no ending by its group while the group has no code
abbrev pub group_text : Option ℤ → List ℕ
group_text None = codes "group"
group_text (Some code) = codes "group " ++ signed_decimal code

-- how a hart ended; a hart that hasn't ended was stopped by its group
abbrev pub ending_text : Option ℤ → Option Ending → List ℕ
ending_text group None = codes "stopped"
ending_text group (Some (Exited code)) = codes "exit " ++ signed_decimal code
ending_text group (Some Group) = group_text group
ending_text group (Some (Fault kind pc)) = codes "fault " ++ (fault_name kind ++ (codes " at 0x" ++ hex 16 pc))
ending_text group (Some Limit) = codes "limit"

-- what became of a hart; a parked one has never begun
abbrev pub fate_text : Option ℤ → HartState → List ℕ
fate_text group hart = if hart.parked then codes "unstarted" else ending_text group hart.ending

-- the report's line of a hart
unfoldable pub hart_line : ℕ → Option ℤ → HartState → List ℕ
hart_line h group hart =
    codes "hart " ++ (decimal h ++ (codes " steps " ++ (decimal hart.steps ++ (codes " blocks " ++ (decimal hart.blocks
    ++ (codes " " ++ (fate_text group hart ++ codes "\n")))))))

abbrev pub is_fault : Option Ending → Bool
is_fault (Some (Fault kind pc)) = true
is_fault _ = false

abbrev pub is_limit : Option Ending → Bool
is_limit (Some Limit) = true
is_limit _ = false

-- exited with a code other than 0
abbrev pub is_failure : Option Ending → Bool
is_failure (Some (Exited (pos zero))) = false
is_failure (Some (Exited code)) = true
is_failure _ = false

abbrev pub is_failed_group : Option ℤ → Bool
is_failed_group None = false
is_failed_group (Some (pos zero)) = false
is_failed_group (Some code) = true

-- the status of a run by its harts' endings and the group's code: the first of 8, 9, 1 and 0 that holds
abbrev pub status_of : Option ℤ → List (Option Ending) → ℕ
status_of group endings =
    if list_any is_fault endings then 8
    else (if list_any is_limit endings then 9
    else (if list_any is_failure endings || is_failed_group group then 1 else 0))
