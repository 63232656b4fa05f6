use Rattle.std.proofs.Common.{subst, sym, List}
use Rattle.flat_model.specs.Image.{Program, IsImage, Segment}
use Rattle.guest_memory.specs.Memory.{IsLaidOut}
use Rattle.guest_memory.proofs.Openings.{opens, opening_laid}
use Rattle.guest_memory.proofs.memory.Memory.new.Goals as goal

pub invariant_of-result : goal.invariant_of-result
invariant_of-result c = subst (λ (l : List Segment). IsLaidOut l) (sym c.in_ok-regions.ensures)
    (opening_laid c.args.image.now c.args.harts c.requires.most (subst (λ (p : Program). IsImage p) c.image.view_is c.image.invariant))

pub returns : goal.returns
returns c = record {
  opening = opens c.args.image.now c.args.harts c.in_ok-regions.regions.items c.in_ok-reservations.reservations.items
      c.in_ok-regions.ensures c.in_ok-reservations.ensures;
}
