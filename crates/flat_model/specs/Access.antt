-- Loads and stores of memory that has a byte at every address, and the reservations of its harts
-- (RISC-V Unprivileged ISA 20191213, 2.6 and 8.2).
use Rattle.std.specs.Prelude.{ℕ, zero, suc, ◌+◌, ◌-◌, ◌&&◌, ◌==◌, nat_lt, nat_le, Bool, false, if◌then◌else◌, List}
use Rattle.std.specs.Prelude.{[], ◌∷◌}
use Rattle.std.specs.Prelude.{slice_index, Option, Some, None}
use Rattle.std.specs.Int.{from_le_bytes, to_le_bytes, w64}

-- the little-endian number that at most eight bytes hold
unfoldable pub number_of : List ℕ → ℕ
number_of bytes = from_le_bytes w64 bytes

-- the eight bytes of a number, the lowest first
unfoldable pub bytes_of_number : ℕ → List ℕ
bytes_of_number value = to_le_bytes w64 value

-- the address is one of the n from addr
abbrev pub is_within : ℕ → ℕ → ℕ → Bool
is_within addr n at = nat_le addr at && nat_lt at (addr + n)

-- the n bytes from addr
unfoldable pub bytes_from : (ℕ → ℕ) → ℕ → ℕ → List ℕ
bytes_from bytes addr zero = []
bytes_from bytes addr (suc n) = bytes addr ∷ bytes_from bytes (addr + 1) n

-- what a load of n bytes gives
abbrev pub loaded : (ℕ → ℕ) → ℕ → ℕ → ℕ
loaded bytes addr n = number_of (bytes_from bytes addr n)

-- the bytes after a store of the n low bytes of value
unfoldable pub stored : (ℕ → ℕ) → ℕ → ℕ → ℕ → ℕ → ℕ
stored bytes addr n value at = if is_within addr n at then slice_index (bytes_of_number value) (at - addr) else bytes at

-- the 8 bytes reserved at a share one with the n from addr
abbrev pub touches : ℕ → ℕ → ℕ → Bool
touches addr n a = nat_lt a (addr + n) && nat_lt addr (a + 8)

-- a reservation that a store of another hart leaves
unfoldable pub left_by : ℕ → ℕ → Option ℕ → Option ℕ
left_by addr n None = None
left_by addr n (Some a) = if touches addr n a then None else Some a

-- hart h's store of n bytes ends the reservations of other harts that it touches
unfoldable pub ended : (ℕ → Option ℕ) → ℕ → ℕ → ℕ → ℕ → Option ℕ
ended reserved h addr n k = if k == h then reserved k else left_by addr n (reserved k)

-- hart h's reservation becomes r
unfoldable pub with_reservation : (ℕ → Option ℕ) → ℕ → Option ℕ → ℕ → Option ℕ
with_reservation reserved h r k = if k == h then r else reserved k

-- the 8 bytes reserved hold the n from addr
unfoldable pub is_reserved : ℕ → ℕ → Option ℕ → Bool
is_reserved addr n None = false
is_reserved addr n (Some a) = nat_le a addr && nat_le (addr + n) (a + 8)
