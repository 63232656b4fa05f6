use Rattle.std.proofs.Common.{◌≡◌, ◌<◌, ◌≤◌, ◌∙◌, length, List, subst, sym, ap, arith, All, drop, take, if◌then◌else◌}
use Rattle.std.specs.Prelude.{insert, is_ok}
use Rattle.watcher_api.specs.Attachment.{Attachment}
use Rattle.watcher_api.specs.Acting.{AreInOrder, AreNumbered}
use Rattle.watcher_api.proofs.Order.{inserted, ordered_insert, numbered_insert, has_room}
use Rattle.watcher_api.proofs.attached.Attached.put.Goals as goal

pub unwrap-requires : goal.unwrap-requires
unwrap-requires g c =
    let now = c.args.self.now in
    let set = c.args.set in
    let i = c.place-place.result in
    let number = c.plugin.ensures.number in
    let place = c.place-place.ensures in
    let below = subst (λ p. All (λ (a : Attachment). a.plugin < p) (take i now)) number place.below in
    let above = subst (λ p. All (λ (a : Attachment). p ≤ a.plugin) (drop i now)) number place.above in
    let order = subst AreInOrder c.self.view_is c.self.invariant.1 in
    let numbered = subst AreNumbered c.self.view_is c.self.invariant.2 in
    let one = subst (λ p. 1 ≤ p) number c.plugin.ensures.least in
    let eight = subst (λ p. p ≤ 8) number c.plugin.ensures.most in
    let long = has_room now i set place.within (ordered_insert now i set place.within below above c.requires.absent order)
    (numbered_insert now i set place.within below above c.requires.absent one eight numbered) in
    c.insert.ensures.succeeds (omega (arith, long, ap length c.self.view_is, c.self.inside.sets.ok.0, c.self.invariant.0))

pub invariant_of-self : goal.invariant_of-self
invariant_of-self g c =
    let now = c.args.self.now in
    let set = c.args.set in
    let i = c.place-place.result in
    let number = c.plugin.ensures.number in
    let place = c.place-place.ensures in
    let below = subst (λ p. All (λ (a : Attachment). a.plugin < p) (take i now)) number place.below in
    let above = subst (λ p. All (λ (a : Attachment). p ≤ a.plugin) (drop i now)) number place.above in
    let order = subst AreInOrder c.self.view_is c.self.invariant.1 in
    let numbered = subst AreNumbered c.self.view_is c.self.invariant.2 in
    let one = subst (λ p. 1 ≤ p) number c.plugin.ensures.least in
    let eight = subst (λ p. p ≤ 8) number c.plugin.ensures.most in
    let sets = c.self.inside.sets.items in
    let chosen : (if is_ok c.insert.result then insert sets i set else sets) ≡ insert sets i set =
    ap (λ r. if is_ok r then insert sets i set else sets) c.unwrap.ensures in
    let grown : c.insert.new.self.items ≡ insert now i set =
    c.insert.ensures.items ∙ (chosen ∙ ap (λ (s : List Attachment). insert s i set) c.self.view_is) in (
      omega (arith, c.insert.ensures.capacity, c.self.invariant.0),
      subst AreInOrder (sym grown) (ordered_insert now i set place.within below above c.requires.absent order),
      subst AreNumbered (sym grown) (numbered_insert now i set place.within below above c.requires.absent one eight numbered),
    )

pub returns : goal.returns
returns g c =
    let now = c.args.self.now in
    let set = c.args.set in
    let i = c.place-place.result in
    let number = c.plugin.ensures.number in
    let place = c.place-place.ensures in
    let below = subst (λ p. All (λ (a : Attachment). a.plugin < p) (take i now)) number place.below in
    let above = subst (λ p. All (λ (a : Attachment). p ≤ a.plugin) (drop i now)) number place.above in
    let sets = c.self.inside.sets.items in
    let chosen : (if is_ok c.insert.result then insert sets i set else sets) ≡ insert sets i set =
    ap (λ r. if is_ok r then insert sets i set else sets) c.unwrap.ensures in
    let grown : c.insert.new.self.items ≡ insert now i set =
    c.insert.ensures.items ∙ (chosen ∙ ap (λ (s : List Attachment). insert s i set) c.self.view_is) in
    record { put = grown ∙ inserted now i set place.within below above c.requires.absent }
