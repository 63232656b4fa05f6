-- The signs of words and scripts, and cutting a text at a byte.
use Rattle.std.specs.Prelude.{ℕ, ◌==◌, nat_lt, if◌then◌else◌, List, length, reverse, position, Option, Some, None}
use Rattle.std.specs.List.{slice_split, before_first, after_first, position_or_len}

abbrev pub space : ℕ
space = 32

abbrev pub hash : ℕ
hash = 35

abbrev pub plus : ℕ
plus = 43

abbrev pub comma : ℕ
comma = 44

abbrev pub minus : ℕ
minus = 45

abbrev pub slash : ℕ
slash = 47

abbrev pub colon : ℕ
colon = 58

abbrev pub equals : ℕ
equals = 61

-- the pieces between the bytes c
abbrev pub pieces : ℕ → List ℕ → List (List ℕ)
pieces c text = slice_split (λ b. b == c) text

-- what stands before the first byte c: all where there is none
abbrev pub before : ℕ → List ℕ → List ℕ
before c text = before_first (λ b. b == c) text

-- what stands after the first byte c, where there is one
abbrev pub after : ℕ → List ℕ → Option (List ℕ)
after c text =
    if nat_lt (position_or_len (λ b. b == c) text) (length text) then Some (after_first (λ b. b == c) text) else None

-- how many bytes stand after the last byte c, where there is one
abbrev pub tail_len : ℕ → List ℕ → Option ℕ
tail_len c text = position (λ b. b == c) (reverse text)
