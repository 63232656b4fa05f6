use Rattle.std.proofs.Common.{◌≡◌, ◌<◌, ◌≤◌, ◌∙◌, ℕ, List, length, subst, sym, ap, arith, slice_index_or}
use Rattle.flat_model.specs.declared.plugins.SetSpec.{SetSpec}
use Rattle.host_state.specs.Filters.{AreSpecsInOrder}
use Rattle.host_state.proofs.Filters.{IsParted, parted_at, parted_behind}
use Rattle.host_state.proofs.specs.Specs.place.Goals as goal

pub returns-then-plugin-set : goal.returns-then-plugin-set
returns-then-plugin-set c =
    let now = c.args.self.now in
    let i = c.loop-place.place in
    let s = c.set-item.result in
    let same = c.deref-set-items.ensures.value ∙ c.self.view_is in
    let within : i < length now = subst (λ (l : List (ℕ × SetSpec)). i < length l) same c.loop-place-test.true in
    let is : s ≡ slice_index_or now i s = subst (λ (l : List (ℕ × SetSpec)). s ≡ slice_index_or l i s) same c.set-item.is in
    let order = subst AreSpecsInOrder c.self.view_is c.self.invariant.1 in
    let parts = parted_at c.args.plugin i now s order c.requires.absent within is c.if-plugin-set.true c.loop-place.invariant in
    record { within = omega (arith, within); below = parts.below; above = parts.above }

pub returns : goal.returns
returns c =
    let now = c.args.self.now in
    let plugin = c.args.plugin in
    let long : c.len.result ≡ length now = omega (arith, c.len.ensures, ap length c.self.view_is) in
    let end : length now ≤ c.loop-place.place =
    omega (arith, c.loop-place-test.false, ap length c.deref-set-items.ensures.value, ap length c.self.view_is) in
    let whole = parted_behind plugin now (λ k d there. c.loop-place.invariant k d (omega (arith, there, end))) in
    let parts : IsParted plugin c.len.result now = subst (λ n. IsParted plugin n now) (sym long) whole in
    record { within = omega (arith, long); below = parts.below; above = parts.above }
