-- One more slot: those before it are freed, those behind it are as they were.
use Rattle.std.proofs.Common.{◌<◌, ◌∙◌, ap, sym, arith, length, set}
use Rattle.std.proofs.lemmas.List.Edits.{map_over_more}
use Rattle.plug_registry.specs.State.{freed}
use Rattle.plug_registry.proofs.give_back_all.Goals as goal

pub loop-slot-preserved : goal.loop-slot-preserved
loop-slot-preserved c =
    let within : c.loop-slot.slot-index < length c.args.slots.now = omega arith in
    ap (λ s. set c.loop-slot.slots c.loop-slot.slot-index s) (c.give_back.ensures ∙ ap (freed c.args.hart) (sym c.slot-item.is))
    ∙ map_over_more (freed c.args.hart) c.args.slots.now c.loop-slot.slots c.loop-slot.slot-index c.slot-item.result within c.loop-slot.invariant c.slot-item.is
