use Rattle.std.proofs.Common.{◌≡◌, ◌<◌, ◌≤◌, ◌∙◌, length, List, All, subst, sym, ap, arith, slice_index_or}
use Rattle.std.proofs.lemmas.List.{length-replicate}
use Rattle.flat_model.specs.declared.plugins.Sub.{Sub}
use Rattle.watcher_api.specs.Attachment.{IsWithin, Room}
use Rattle.watcher_api.specs.HeldActs.{act_of}
use Rattle.watcher_api.proofs.Opening.{one_more, all_within, as_long}
use Rattle.watcher_api.proofs.attached_sets.AttachedSet.seated.Goals as goal

pub with_box-requires-clause-enough : goal.with_box-requires-clause-enough
with_box-requires-clause-enough g c does =
    let subs = c.args.spec.now.subs in
    let i = c.loop-sub.sub-index in
    let s = c.sub-item.result in
    let same = c.as_slice-sub-items.ensures.subscriptions in
    let below : i < length subs = subst (λ (l : List Sub). i < length l) same c.loop-sub-test.true in
    let is : s ≡ slice_index_or subs i s = subst (λ (l : List Sub). s ≡ slice_index_or l i s) same c.sub-item.is in
    omega (arith, one_more subs i s below is does, c.loop-sub.invariant.left, c.requires.enough)

pub invariant_of-result : goal.invariant_of-result
invariant_of-result g c =
    let subs = c.args.spec.now.subs in
    let held = c.loop-sub.held.items in
    let k = c.loop-sub.sub-index in
    let same = c.as_slice-sub-items.ensures.subscriptions in
    let whole : length subs ≤ k = subst (λ (l : List Sub). length l ≤ k) same c.loop-sub-test.false in
    let acts = c.loop-sub.invariant.acts in
    let entries : length c.seats.inside.column ≡ c.args.spec.now.entries =
    ap (λ (r : Room). length r.column) c.seats.view_is ∙ ap length c.requires.room.column
    ∙ length-replicate c.args.spec.now.entries 0 in (
      c.requires.number,
      c.requires.most,
      omega (arith, as_long k held subs whole acts, c.requires.subs),
      subst (λ n. All (λ h. IsWithin n (act_of h)) held) (sym entries)
          (all_within c.args.spec.now.entries k held subs whole acts c.requires.entries),
    )
