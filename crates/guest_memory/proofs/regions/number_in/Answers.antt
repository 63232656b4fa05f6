use Rattle.std.proofs.Common.{◌≡◌, ◌^◌, rules, ap}
use Rattle.flat_model.specs.Image.{Segment}
use Rattle.guest_memory.proofs.Places.{number_found}
use Rattle.guest_memory.proofs.regions.number_in.Goals as goal

pub returns : goal.returns
returns c =
    let bytes : c.deref.result.now ≡ c.args.region.now.bytes = search rules in
    number_found c.args.region.now c.deref.result.now c.region.inside.base c.args.addr (2 ^ c.args.shift) c.number_at.result bytes
    (ap (λ (s : Segment). s.base) c.region.view_is) c.requires.inside c.number_at.ensures
