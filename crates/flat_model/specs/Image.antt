-- The memory image that an ELF64 file gives: one segment for each PT_LOAD header, and the entry.
use Rattle.std.specs.Prelude.{ℕ, ◌+◌, ◌-◌, ◌*◌, ◌%◌, ◌^◌, ◌≤◌, ◌≡◌, ◌⊎◌, ◌&&◌, ◌==◌, nat_le}
use Rattle.std.specs.Prelude.{Bool, false, if◌then◌else◌, List, length}
use Rattle.std.specs.Prelude.{slice_index, Option, None, option_map, find, All, AllPairs}
use Rattle.flat_model.specs.declared.limits.TheConstants.{SEGMENTS_END}

-- bytes at an address, with their permissions to read, write and execute
pub record Segment : Type 0 where
  pub base : ℕ
  pub bytes : List ℕ
  pub r : Bool
  pub w : Bool
  pub x : Bool

-- the segments, and the address of the first instruction
pub record Program : Type 0 where
  pub regions : List Segment
  pub entry : ℕ

-- the first address past the segment
abbrev pub end_of : Segment → ℕ
end_of s = s.base + length s.bytes

-- the n bytes from addr all lie in the segment
abbrev pub holds : ℕ → ℕ → Segment → Bool
holds addr n s = nat_le s.base addr && nat_le (addr + n) (end_of s)

-- no byte lies in both
abbrev pub AreApart : Segment → Segment → Type 0
AreApart s t = (end_of s ≤ t.base) ⊎ (end_of t ≤ s.base)

-- what each image keeps: no two segments share a byte, none reaches the stacks, no code can be written,
-- and the entry is a multiple of 4
pub record IsImage (p : Program) : Type 0 where
  pub apart : AllPairs AreApart p.regions
  pub low : All (λ s. end_of s ≤ SEGMENTS_END) p.regions
  pub no_writable_code : All (λ s. (s.w && s.x) ≡ false) p.regions
  pub aligned : p.entry % 4 ≡ 0

-- the word of the four bytes at pc, little-endian (RISC-V Unprivileged ISA 20191213, 1.4)
abbrev pub word_of : ℕ → Segment → ℕ
word_of pc s =
    let i = pc - s.base in
    slice_index s.bytes i + 2 ^ 8 * slice_index s.bytes (i + 1) + 2 ^ 16 * slice_index s.bytes (i + 2)
    + 2 ^ 24 * slice_index s.bytes (i + 3)

-- the executable segment with the four bytes at pc
abbrev pub code_at : List Segment → ℕ → Option Segment
code_at regions pc = find (λ s. s.x && holds pc 4 s) regions

-- the present word at pc: absent where no executable segment holds its four bytes, or pc is no multiple of 4
unfoldable pub word_at : Program → ℕ → Option ℕ
word_at p pc = if pc % 4 == 0 then option_map (word_of pc) (code_at p.regions pc) else None
