-- What a journal file of version 2 says of its run.
use Rattle.std.specs.Prelude.{ℕ, zero, suc, ◌*◌, ◌≡◌, ◌&&◌, Bool, true, nat_le, if◌then◌else◌, List, Option, Some}
use Rattle.std.specs.Prelude.{None}
use Rattle.flat_model.specs.declared.journals.Mode.{Mode}
use Rattle.flat_model.specs.declared.journals.Mode.TheVariants.{All, First}
use Rattle.flat_model.specs.declared.journals.Entry.{Entry}
use Rattle.flat_model.specs.declared.limits.TheConstants.{HARTS_MOST, LIMIT_MOST, TOTAL_MOST}

pub record Head : Type 0 where
  pub harts : ℕ
  pub mode : Mode
  pub limit : ℕ

-- whether a number of harts and the limit of each are within the limits of a run
abbrev pub are_within : ℕ → ℕ → Bool
are_within harts limit =
    (nat_le 1 harts && nat_le harts HARTS_MOST) && ((nat_le 1 limit && nat_le limit LIMIT_MOST) && nat_le (harts * limit) TOTAL_MOST)

abbrev pub IsHead : Head → Type 0
IsHead head = are_within head.harts head.limit ≡ true

abbrev pub head_of : ℕ → Mode → ℕ → Option Head
head_of harts mode limit = if are_within harts limit then Some (record { harts = harts; mode = mode; limit = limit }) else None

abbrev pub mode_byte : Mode → ℕ
mode_byte All = 0
mode_byte First = 1

abbrev pub mode_of : ℕ → Option Mode
mode_of zero = Some All
mode_of (suc zero) = Some First
mode_of (suc (suc b)) = None

-- what a file holds
pub record FileState : Type 0 where
  pub head : Option Head
  pub entries : List Entry
