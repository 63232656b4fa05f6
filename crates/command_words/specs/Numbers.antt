-- Numbers in words: 1 to 20 decimal digits.
use Rattle.std.specs.Prelude.{ℕ, ◌+◌, ◌-◌, ◌*◌, ◌^◌, ◌&&◌, nat_lt, nat_le, if◌then◌else◌, []}
use Rattle.std.specs.Prelude.{◌∷◌, length, Option, Some, None, option_and_then}
use Rattle.command_words.specs.Words.{Text}

-- the value of a digit
abbrev pub digit : ℕ → Option ℕ
digit b = if nat_le 48 b && nat_le b 57 then Some (b - 48) else None

-- a number with one more digit, where it is below 2^64
abbrev pub with_digit : ℕ → ℕ → Option ℕ
with_digit n d = if nat_lt (n * 10 + d) (2 ^ 64) then Some (n * 10 + d) else None

-- the number that digits after n spell, where all are digits and it is below 2^64
abbrev pub read_on : ℕ → Text → Option ℕ
read_on n [] = Some n
read_on n (b ∷ bs) = option_and_then (λ m. read_on m bs) (option_and_then (with_digit n) (digit b))

-- the number that a text of 1 to 20 digits spells
abbrev pub number : Text → Option ℕ
number text = if nat_lt 0 (length text) && nat_le (length text) 20 then read_on 0 text else None

abbrev pub within : ℕ → Option ℕ → Option ℕ
within most None = None
within most (Some n) = if nat_le 1 n && nat_le n most then Some n else None

-- the number that a text spells, where it is 1 to `most`
abbrev pub number_within : ℕ → Text → Option ℕ
number_within most text = within most (number text)
