use Rattle.std.proofs.Common.{◌≡◌, ◌<◌, ◌≤◌, length, subst, arith, slice_index_or, All, drop}
use Rattle.watcher_api.specs.Attachment.{Attachment}
use Rattle.watcher_api.proofs.Order.{place_above}
use Rattle.watcher_api.proofs.attached.Attached.place.Goals as goal

pub returns-then-plugin-clause-above : goal.returns-then-plugin-clause-above
returns-then-plugin-clause-above g c =
    let sets = c.self.inside.sets.items in
    let i = c.loop-place.place in
    let x = c.set-item.result in
    let same = c.deref-set-items.ensures.value in
    let below : i < length sets = subst (λ s. i < length s) same c.loop-place-test.true in
    let is : x ≡ slice_index_or sets i x = subst (λ s. x ≡ slice_index_or s i x) same c.set-item.is in
    subst (λ s. All (λ (a : Attachment). c.args.plugin ≤ a.plugin) (drop i s)) c.self.view_is
    (place_above sets i c.args.plugin x c.self.invariant.1 below is (omega (arith, c.if-plugin.true, c.plugin.ensures.number)))
