-- The slot shows what it showed, and has room for one more set.
use Rattle.std.proofs.Common.{◌<◌, ◌-◌, ◌∙◌, arith, length, ap, subst, set}
use Rattle.std.proofs.Math.Seq.{map-set_same}
use Rattle.std.proofs.lemmas.Grind.{common_steps}
use Rattle.std.proofs.lemmas.Result.{on_ok_weaker}
use Rattle.std.specs.Prelude.{is_some}
use Rattle.plug_registry.specs.State.{RegistryState, SlotState, KeepsRoom}
use Rattle.plug_registry.proofs.Slots.{seen, keeps_room, room_here}
use Rattle.plug_registry.proofs.Registry.reserve_set.Goals as goal

pub returns-clause-table : goal.returns-clause-table
returns-clause-table c =
    let old = c.index_mut.result.now in
    ap (λ ps. record { harts = c.self.inside.harts; boxes = c.self.inside.boxes; plugins = ps; gone = c.self.inside.gone.items })
    (map-set_same (λ (s : SlotState). s.plugin) c.self.inside.slots.items (c.args.plugin - 1) _ old
    (c.reserve.ensures.plugin ∙ ap (λ (s : SlotState). s.plugin) c.index_mut.ensures.value))
    ∙ ap (λ (k : RegistryState). k.table) c.self.view_is

pub returns-clause-room : goal.returns-clause-room
returns-clause-room c =
    let within : c.args.plugin - 1 < length c.self.inside.slots.items = grind (arith, common_steps) in
    on_ok_weaker c.reserve.result (λ room there. room_here c.self.inside.slots.items (c.args.plugin - 1) c.reserve.new.self within ∙ room)
    c.reserve.ensures.room

pub returns-clause-kept : goal.returns-clause-kept
returns-clause-kept c =
    let old = c.self.inside in
    let can = is_some old.spare in
    let slots = set old.slots.items (c.args.plugin - 1) c.reserve.new.self in
    subst (λ (k : RegistryState). KeepsRoom k (seen old.harts old.boxes old.gone.items can slots)) c.self.view_is
    (keeps_room old.harts old.boxes old.gone.items can old.slots.items (c.args.plugin - 1) _ _ c.index_mut.ensures.value c.reserve.ensures.kept)
