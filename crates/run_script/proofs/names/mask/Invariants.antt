-- The names that are left give what all of them give, and the bits so far have room.
use Rattle.std.proofs.Common.{◌≡◌, ◌<◌, ◌^◌, ◌+◌, [], length}
use Rattle.std.specs.Option.{option_map_or}
use Rattle.run_script.specs.Names.{mask, mask_from, width}
use Rattle.run_script.specs.Bytes.{pieces}
use Rattle.run_script.proofs.names.mask.Given as goal

abbrev pub invariant-loop-rest : goal.invariant-loop-rest
invariant-loop-rest l =
    (mask_from l.names l.bits (option_map_or (λ list. pieces 47 list.now) l.rest []) ≡ mask l.names l.text)
    × (l.bits < 2 ^ width l.names)

abbrev pub decreases-loop-rest : goal.decreases-loop-rest
decreases-loop-rest l = option_map_or (λ list. length list.now + 1) l.rest 0
