use Rattle.std.proofs.Common.{◌∙◌}
use Rattle.guest_memory.specs.declared.regions.Access.TheVariants.{Read}
use Rattle.guest_memory.proofs.Places.{may_first, may_none, byte_found}
use Rattle.guest_memory.proofs.regions.byte_at.Goals as goal

pub returns-in_err-place : goal.returns-in_err-place
returns-in_err-place c = rw c.from_residual.ensures (may_none Read c.args.addr c.args.regions.now c.in_err-place.ensures.place)

pub returns : goal.returns
returns c = (
  may_first Read c.args.regions.now c.in_ok-place.place c.args.addr c.requires c.in_ok-place.ensures.place,
  c.byte_in.ensures ∙ byte_found c.args.regions.now c.in_ok-place.place c.args.addr c.index-regions-place.result c.requires
      c.in_ok-place.ensures.place c.index-regions-place.is,
)
