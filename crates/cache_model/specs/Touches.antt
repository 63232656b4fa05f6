-- Which lines an event touches: an access touches each line of which it has a byte, in ascending order. The one event of
-- an AMO touches once.
use Rattle.std.specs.Prelude.{ℕ, zero, suc, ◌+◌, ◌-◌, ◌/◌, ◌^◌, ◌≤◌, ◌==◌, List, [], ◌∷◌, filter, flat_map}
use Rattle.flat_model.specs.declared.events.Event.{Event}
use Rattle.flat_model.specs.declared.events.What.{What}
use Rattle.flat_model.specs.declared.events.What.TheVariants.{Init, Block, Insn, Mem, Sys, SysRet, Exit}

-- n and the k numbers behind it
abbrev pub ascending : ℕ → ℕ → List ℕ
ascending n zero = n ∷ []
ascending n (suc k) = n ∷ ascending (n + 1) k

-- the lines of 2^shift bytes at addr, from that of the first byte to that of the last
abbrev pub lines_of : ℕ → ℕ → ℕ → List ℕ
lines_of line addr shift = ascending (addr / line) ((addr + 2 ^ shift - 1) / line - addr / line)

abbrev pub touched_by : ℕ → What → List ℕ
touched_by line Init = []
touched_by line (Block pc n) = []
touched_by line (Insn pc word) = []
touched_by line (Mem pc addr shift signed rw read written) = lines_of line addr shift
touched_by line (Sys number a0 a1 a2) = []
touched_by line (SysRet number result) = []
touched_by line (Exit ending) = []

-- an access has at most 8 bytes, and none past the greatest address
abbrev pub IsInReach : What → Type 0
IsInReach Init = Unit {0}
IsInReach (Block pc n) = Unit {0}
IsInReach (Insn pc word) = Unit {0}
IsInReach (Mem pc addr shift signed rw read written) = (shift ≤ 3) × (addr + 2 ^ shift ≤ 2 ^ 64)
IsInReach (Sys number a0 a1 a2) = Unit {0}
IsInReach (SysRet number result) = Unit {0}
IsInReach (Exit ending) = Unit {0}

-- the touches of all harts in the order of the events, and those of hart h
abbrev pub touches : ℕ → List Event → List ℕ
touches line events = flat_map (λ e. touched_by line e.what) events

abbrev pub touches_of : ℕ → ℕ → List Event → List ℕ
touches_of line h events = touches line (filter (λ e. e.hart == h) events)
