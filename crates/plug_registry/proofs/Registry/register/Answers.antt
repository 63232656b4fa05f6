-- The slot is Live and has one more set, and the boxes are taken off.
use Rattle.std.proofs.Common.{◌≡◌, ◌<◌, ◌-◌, ◌∙◌, ap, sym, arith, length, subst, set}
use Rattle.std.proofs.lemmas.Grind.{common_steps}
use Rattle.std.specs.Prelude.{is_some}
use Rattle.flat_model.specs.declared.journals.Order.TheVariants as orders
use Rattle.flat_model.specs.Registry.{with_set, boxes_of, after_order}
use Rattle.plug_registry.specs.State.{RegistryState, KeepsOtherRoom}
use Rattle.plug_registry.proofs.Slots.{changed, seen, keeps_other}
use Rattle.plug_registry.proofs.Registry.register.Goals as goal

pub returns-clause-table : goal.returns-clause-table
returns-clause-table c =
    let old = c.self.inside in
    let within : c.args.plugin - 1 < length old.slots.items = grind (arith, common_steps) in
    let boxes : c.boxes_of-need.result ≡ boxes_of (seen old.harts old.boxes old.gone.items (is_some old.spare) old.slots.items).table c.args.spec =
    c.boxes_of-need.ensures ∙ ap (λ (k : RegistryState). boxes_of k.table c.args.spec) (sym c.self.view_is) in
    ap (λ ps. record { harts = old.harts; boxes = old.boxes - c.boxes_of-need.result; plugins = ps; gone = old.gone.items })
    (changed (λ p. with_set p c.args.spec) old.slots.items (c.args.plugin - 1) _ _ within c.index_mut.ensures.value c.register.ensures)
    ∙ ap (λ b. record (after_order (orders.Register c.args.plugin c.args.spec) (seen old.harts old.boxes old.gone.items (is_some old.spare) old.slots.items).table) { boxes = old.boxes - b }) boxes
    ∙ ap (λ (k : RegistryState). after_order (orders.Register c.args.plugin c.args.spec) k.table) c.self.view_is

pub returns-clause-kept : goal.returns-clause-kept
returns-clause-kept c =
    let old = c.self.inside in
    let some : 0 < c.args.plugin = grind (arith, common_steps) in
    let can = is_some old.spare in
    let gone = old.gone.items in
    let slots = set old.slots.items (c.args.plugin - 1) c.register.new.self in
    let left = old.boxes - c.boxes_of-need.result in
    subst (λ (k : RegistryState). KeepsOtherRoom (orders.Register c.args.plugin c.args.spec) k (seen old.harts left gone can slots)) c.self.view_is
    (keeps_other old.harts old.boxes left gone can old.slots.items c.args.plugin c.args.spec c.register.new.self some)
