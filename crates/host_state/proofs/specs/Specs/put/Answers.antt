use Rattle.std.proofs.Common.{◌≡◌, ◌∙◌, ℕ, List, length, subst, sym, ap, arith, insert, is_ok, if◌then◌else◌}
use Rattle.flat_model.specs.declared.plugins.SetSpec.{SetSpec}
use Rattle.kept_order.specs.Arriving.{with_spec}
use Rattle.host_state.specs.Filters.{AreSpecsInOrder, AreSpecsNumbered}
use Rattle.host_state.proofs.Filters.{inserted, ordered_with, numbered_with, has_room}
use Rattle.host_state.proofs.specs.Specs.put.Goals as goal

pub unwrap-requires : goal.unwrap-requires
unwrap-requires c =
    let now = c.args.self.now in
    let i = c.place-place.result in
    let new : ℕ × SetSpec = (c.args.plugin, c.args.spec) in
    let place = c.place-place.ensures in
    let order = subst AreSpecsInOrder c.self.view_is c.self.invariant.1 in
    let numbered = subst AreSpecsNumbered c.self.view_is c.self.invariant.2 in
    let is = inserted new i now place.below place.above in
    let room = has_room new i now place.within is c.requires.least c.requires.most order numbered in
    c.insert.ensures.succeeds (omega (arith, room, ap length c.self.view_is, c.self.inside.sets.ok.0, c.self.invariant.0))

pub invariant_of-self : goal.invariant_of-self
invariant_of-self c =
    let now = c.args.self.now in
    let i = c.place-place.result in
    let new : ℕ × SetSpec = (c.args.plugin, c.args.spec) in
    let place = c.place-place.ensures in
    let order = subst AreSpecsInOrder c.self.view_is c.self.invariant.1 in
    let numbered = subst AreSpecsNumbered c.self.view_is c.self.invariant.2 in
    let sets = c.self.inside.sets.items in
    let chosen : (if is_ok c.insert.result then insert sets i new else sets) ≡ insert sets i new =
    ap (λ r. if is_ok r then insert sets i new else sets) c.unwrap.ensures in
    let grown : c.insert.new.self.items ≡ with_spec new now =
    c.insert.ensures.items ∙ (chosen ∙ (ap (λ (s : List (ℕ × SetSpec)). insert s i new) c.self.view_is
    ∙ inserted new i now place.below place.above)) in (
      omega (arith, c.insert.ensures.capacity, c.self.invariant.0),
      subst AreSpecsInOrder (sym grown) (ordered_with new now order),
      subst AreSpecsNumbered (sym grown) (numbered_with new now c.requires.least c.requires.most numbered),
    )
