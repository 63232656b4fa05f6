-- A journal that begins with entries that were followed and goes on with lines of the script alone: a replay places each line that is
-- due by itself, and the journal that it follows is to have the same line at the same place.
use Rattle.std.specs.Prelude.{◌≡◌, ◌++◌, ◌∷◌, [], ℕ, List, take}
use Rattle.flat_model.specs.declared.journals.Entry.{Entry}
use Rattle.flat_model.specs.declared.journals.Entry.TheVariants.{Turn, Order, Back, Leave, Done}
use Rattle.flat_model.specs.declared.journals.Origin.{Origin}
use Rattle.flat_model.specs.declared.journals.Origin.TheVariants.{Start, Script, Asked, Control}

-- an entry that is a line of the script
abbrev pub IsScript : Origin → Type 0
IsScript Start = ⊥
IsScript (Script line party) = Unit {0}
IsScript (Asked hart plugin) = ⊥
IsScript (Control party) = ⊥

abbrev pub IsLineEntry : Entry → Type 0
IsLineEntry (Turn hart n) = ⊥
IsLineEntry (Order origin order) = IsScript origin
IsLineEntry (Back hart plugin) = ⊥
IsLineEntry (Leave hart) = ⊥
IsLineEntry (Done party plugin) = ⊥

abbrev pub AreLines : List Entry → Type 0
AreLines [] = Unit {0}
AreLines (e ∷ es) = IsLineEntry e × AreLines es

-- the journal `own` has the first k of the entries, and then lines
pub record IsAhead (k : ℕ) (es own : List Entry) : Type 0 where
  pub lines : List Entry
  pub begins : own ≡ take k es ++ lines
  pub are : AreLines lines
