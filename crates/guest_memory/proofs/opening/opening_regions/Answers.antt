use Rattle.std.proofs.Common.{◌∙◌, ap}
use Rattle.flat_model.specs.Image.{Program}
use Rattle.guest_memory.proofs.Openings.{none_yet, one_more}
use Rattle.guest_memory.proofs.opening.opening_regions.Goals as goal

pub loop-hart-init : goal.loop-hart-init
loop-hart-init c = none_yet c.args.image.now.regions c.in_ok-regions.regions.items
    (c.in_ok-regions.ensures ∙ c.deref.ensures.value ∙ ap (λ (p : Program). p.regions) c.image.view_is)

pub loop-hart-preserved : goal.loop-hart-preserved
loop-hart-preserved c = one_more c.args.image.now.regions c.loop-hart.regions.items c.push.new.self.items c.loop-hart.hart
    c.in_ok-added.added c.loop-hart.invariant c.in_ok-added.ensures c.in_ok-push.ensures.items
