-- Numbers in words: decimal ones of 1 to 20 digits, and hexadecimal ones of 1 to 16 digits of either case.
use Rattle.std.specs.Prelude.{ℕ, ◌+◌, ◌-◌, ◌*◌, ◌^◌, ◌==◌, ◌&&◌, nat_lt, nat_le, if◌then◌else◌, List, []}
use Rattle.std.specs.Prelude.{◌∷◌, length, Option, Some, None, option_and_then}
use Rattle.flat_model.specs.declared.limits.TheConstants.{ENTRIES_MOST}

-- the value of a digit in a base of 10 or 16
abbrev pub digit : ℕ → ℕ → Option ℕ
digit base b =
    if nat_le 48 b && nat_le b 57 then Some (b - 48)
    else if nat_le 97 b && nat_le b 102 && base == 16 then Some (b - 87)
    else if nat_le 65 b && nat_le b 70 && base == 16 then Some (b - 55)
    else None

-- a number with one more digit, where it is below 2^64
abbrev pub with_digit : ℕ → ℕ → ℕ → Option ℕ
with_digit base n d = if nat_lt (n * base + d) (2 ^ 64) then Some (n * base + d) else None

-- the number that digits after n spell, where all are digits and it is below 2^64
abbrev pub read_on : ℕ → ℕ → List ℕ → Option ℕ
read_on base n [] = Some n
read_on base n (b ∷ bs) =
    option_and_then (λ m. read_on base m bs) (option_and_then (with_digit base n) (digit base b))

-- the number that a text of 1 to `most` digits spells
abbrev pub number : ℕ → ℕ → List ℕ → Option ℕ
number base most text = if nat_lt 0 (length text) && nat_le (length text) most then read_on base 0 text else None

-- the number of an entry, below the most entries of a set
abbrev pub entry_number : List ℕ → Option ℕ
entry_number text = option_and_then (λ n. if nat_lt n ENTRIES_MOST then Some n else None) (number 10 20 text)
