-- A number in hexadecimal without leading zeros.
use Rattle.std.specs.Prelude.{ℕ, List, false}
use Rattle.std.specs.Fmt.{digits}

-- what Rust's `{:x}` writes: the digits in lower case from the first that isn't 0 on, and `0` for 0
unfoldable pub short_hex : ℕ → List ℕ
short_hex n = digits 16 false n
