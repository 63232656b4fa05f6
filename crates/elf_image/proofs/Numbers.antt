-- The numbers that `byteorder` reads from an offset on are those of the file's bytes there.
use Rattle.std.proofs.Common.{◌≡◌, ℕ, List, drop, add-zero, add_assoc, arith}
use Rattle.std.proofs.lemmas.List.{get_or-drop}
use Rattle.byteorder.specs.Endian.{little_number}
use Rattle.elf_image.specs.Fields.{u16_at, u32_at, u64_at}

pub u16_read : (file : List ℕ) (offset : ℕ) → little_number 2 (drop offset file) ≡ u16_at file offset
unfolding u16_at
u16_read file offset = simp (get_or-drop {A = ℕ}, add-zero) (omega arith)

pub u32_read : (file : List ℕ) (offset : ℕ) → little_number 4 (drop offset file) ≡ u32_at file offset
unfolding u32_at u16_at
u32_read file offset = simp (get_or-drop {A = ℕ}, add-zero, add_assoc) (omega arith)

pub u64_read : (file : List ℕ) (offset : ℕ) → little_number 8 (drop offset file) ≡ u64_at file offset
unfolding u64_at u32_at u16_at
u64_read file offset = simp (get_or-drop {A = ℕ}, add-zero, add_assoc) (omega arith)
