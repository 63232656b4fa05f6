-- Journals with what the rules say of them.
use Rattle.std.specs.Prelude.{ℕ, ◌≡◌, ◌&&◌, not, Bool, true, List, [], ◌∷◌, Option, None}
use Rattle.flat_model.specs.declared.journals.Entry.{Entry}
use Rattle.flat_model.specs.declared.journals.Entry.TheVariants as entries
use Rattle.flat_model.specs.declared.journals.Order.{Order}
use Rattle.flat_model.specs.declared.journals.Order.TheVariants.{Install}
use Rattle.flat_model.specs.declared.journals.Timed.{Timed}
use Rattle.flat_model.specs.declared.journals.Origin.TheVariants.{Start, Script, Asked, Control}
use Rattle.flat_model.specs.declared.plugins.SetSpec.{SetSpec}
use Rattle.flat_model.specs.Log.{log, are_one, turning}
use Rattle.run_rules.specs.Guest.{Run}
use Rattle.run_rules.specs.Legal.{Whole, IsBrokenAt}

-- a journal that is whole, or that isn't, with its place
pub data Case : Type 0 where
  whole : List Entry → Case
  broken : ℕ → List Entry → Case

-- a journal has no Turn next to one of its hart; `last` is the hart of the Turn before
abbrev pub is_joined_after : Option ℕ → List Entry → Bool
is_joined_after last [] = true
is_joined_after last (e ∷ es) = not (are_one last (turning e)) && is_joined_after (turning e) es

abbrev pub is_joined : List Entry → Bool
is_joined es = is_joined_after None es

pub record IsWhole (run : Run) (es : List Entry) : Type 0 where
  pub joined : is_joined es ≡ true
  pub whole : Whole run (log es)

pub record IsBroken (run : Run) (place : ℕ) (es : List Entry) : Type 0 where
  pub joined : is_joined es ≡ true
  pub broken : IsBrokenAt run es place

abbrev pub IsSo : Run → Case → Type 0
IsSo run (whole es) = IsWhole run es
IsSo run (broken place es) = IsBroken run place es

abbrev pub AreSo : Run → List Case → Type 0
AreSo run [] = Unit {0}
AreSo run (c ∷ cases) = IsSo run c × AreSo run cases

-- Entries in short.

abbrev pub start : SetSpec → Entry
start spec = entries.Order Start (Install spec)

abbrev pub line : ℕ → ℕ → Order → Entry
line number party order = entries.Order (Script number party) order

abbrev pub asked : ℕ → ℕ → Order → Entry
asked hart plugin order = entries.Order (Asked hart plugin) order

abbrev pub control : ℕ → Order → Entry
control party order = entries.Order (Control party) order

-- a line of a script
abbrev pub at : ℕ → Order → Timed
at moment order = record { when = moment; order = order }
