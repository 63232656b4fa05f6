-- The file of the program of a number.
use Rattle.std.specs.Prelude.{◌≡◌, ℕ, ◌*◌, ◌^◌, ◌<◌, List, [], ◌∷◌, ◌++◌, length, map, replicate, Some, All}
use Rattle.std.specs.Int.{w16, w32, w64, to_le_bytes}
use Rattle.std.specs.List.{flat_map}
use Rattle.flat_model.specs.declared.instructions.Ins.{Ins}
use Rattle.flat_model.specs.Instruction.{decoded}
use Rattle.guest_gen.specs.Instructions.{instructions}

-- The headers, by the ELF64 object file format; a field that isn't named is 0.

-- class 64, little-endian, version 1; a static executable for RISC-V, entered at 0x10000; two program headers of 56 bytes behind it
abbrev pub elf_header : List ℕ
elf_header =
    127 ∷ 69 ∷ 76 ∷ 70 ∷ 2 ∷ 1 ∷ 1 ∷ (replicate 9 0
    ++ (to_le_bytes w16 2 ++ (to_le_bytes w16 243 ++ (to_le_bytes w32 0
    ++ (to_le_bytes w64 0x10000 ++ (to_le_bytes w64 64 ++ (to_le_bytes w64 0 ++ (to_le_bytes w32 0
    ++ (to_le_bytes w16 0 ++ (to_le_bytes w16 56 ++ (to_le_bytes w16 2 ++ replicate 6 0)))))))))))

-- numbers of 4 and of 8 bytes, low byte first
unfoldable pub u32_bytes : ℕ → List ℕ
u32_bytes n = to_le_bytes w32 n

unfoldable pub u64_bytes : ℕ → List ℕ
u64_bytes n = to_le_bytes w64 n

-- the bytes of a segment in the file and in memory
abbrev pub sizes : ℕ → ℕ → List ℕ
sizes in_file in_memory = u64_bytes in_file ++ (u64_bytes in_memory ++ u64_bytes 0)

-- a segment that is loaded: its flags, where its bytes stand in the file, its address and its sizes
abbrev pub program_header : ℕ → ℕ → ℕ → ℕ → ℕ → List ℕ
program_header flags offset address in_file in_memory =
    u32_bytes 1 ++ (u32_bytes flags ++ (u64_bytes offset ++ (u64_bytes address ++ (u64_bytes 0 ++ sizes in_file in_memory))))

-- so many bytes of code at 0x10000, which may be read and executed, and 16 bytes of zeros at 0x20000000, which may be read and written
unfoldable pub headers : ℕ → List ℕ
headers bytes =
    elf_header ++ (program_header 5 176 0x10000 bytes bytes ++ program_header 6 176 0x20000000 0 16)

-- the bytes are the words of the instructions, one after the other, low byte first
pub record IsCode (code : List Ins) (bytes : List ℕ) : Type 0 where
  pub words : List ℕ
  pub decode : map decoded words ≡ map Some code
  pub fit : All (λ word. word < 2 ^ 32) words
  pub spelled : bytes ≡ flat_map u32_bytes words

-- the headers, and then the code
pub record IsProgram (n : ℕ) (file : List ℕ) : Type 0 where
  pub code : List ℕ
  pub is_code : IsCode (instructions n) code
  pub spelled : file ≡ headers (4 * length (instructions n)) ++ code

-- there is one such file
abbrev pub OneProgram : Type 0
OneProgram = (n : ℕ) (file other : List ℕ) → IsProgram n file → IsProgram n other → file ≡ other
