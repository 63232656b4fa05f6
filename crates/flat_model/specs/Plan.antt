-- What a run is to do beside its guest.
use Rattle.std.specs.Prelude.{◌<◌, ◌^◌, List, length}
use Rattle.std.specs.List.Sorted.{IsNonDecreasingBy}
use Rattle.flat_model.specs.declared.plugins.SetSpec.{SetSpec}
use Rattle.flat_model.specs.declared.journals.Timed.{Timed}

-- the installs of the start, and the lines of the script
pub record Planned : Type 0 where
  pub installs : List SetSpec
  pub script : List Timed

-- what every plan keeps: its moments never fall, and a line's number fits 32 bits
pub record IsPlan (script : List Timed) : Type 0 where
  pub rising : IsNonDecreasingBy (λ t. t.when) script
  pub lines : length script < 2 ^ 32
