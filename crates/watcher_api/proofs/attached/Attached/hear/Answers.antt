use Rattle.std.proofs.Common.{◌≡◌, ◌<◌, ◌-◌, ◌∙◌, length, List, subst, sym, ap, slice_set}
use Rattle.event_walk.specs.Walk.{first_ask}
use Rattle.watcher_api.specs.Attachment.{Attachment}
use Rattle.watcher_api.specs.Acting.{act_in, acts_at, acts_of, ask_of, walks_of, with_act}
use Rattle.watcher_api.proofs.Sets.{ordered_set, numbered_set, acts_set, acted_at}
use Rattle.watcher_api.proofs.attached.Attached.hear.Goals as goal

pub invariant_of-self-2 : goal.invariant_of-self-2
invariant_of-self-2 g c =
    let sets = c.self.inside.sets.items in
    let k = c.args.set in
    let old = c.index_mut-place.result.now in
    let new = c.hear.new.self in
    let is = c.index_mut-place.ensures.value in
    let below : k < length sets = subst (λ (s : List Attachment). k < length s) (sym c.self.view_is) c.requires.set in
    let has = c.in_ok-ask.ensures.done in (
      c.self.invariant.0,
      ordered_set sets k old new below is has.number c.self.invariant.1,
      numbered_set sets k old new below is has.number c.self.invariant.2,
    )

pub returns-clause-same : goal.returns-clause-same
returns-clause-same g c =
    let sets = c.self.inside.sets.items in
    let k = c.args.set in
    let below : k < length sets = subst (λ (s : List Attachment). k < length s) (sym c.self.view_is) c.requires.set in
    let has = c.in_ok-ask.ensures.done in
    acts_set sets k c.index_mut-place.result.now c.hear.new.self below c.index_mut-place.ensures.value has.number has.same
    ∙ ap acts_of c.self.view_is

pub returns-clause-done : goal.returns-clause-done
returns-clause-done g c =
    let sets = c.self.inside.sets.items in
    let k = c.args.set in
    let i = c.args.sub in
    let e = c.args.e.now in
    let old = c.index_mut-place.result.now in
    let new = c.hear.new.self in
    let asks = c.args.asks.now.first in
    let later = c.note.new.self.first in
    let ask = c.in_ok-ask.ask in
    let below : k < length sets = subst (λ (s : List Attachment). k < length s) (sym c.self.view_is) c.requires.set in
    let has = c.in_ok-ask.ensures.done in
    let noted : later ≡ slice_set asks (old.plugin - 1) (first_ask (ask_of old.plugin asks) ask) =
    subst (λ p. later ≡ slice_set asks (p - 1) (first_ask (ask_of p asks) ask)) (c.plugin.ensures.number ∙ has.number) c.note.ensures.noted in
    subst (λ (s : List Attachment). walks_of later (slice_set sets k new) ≡ with_act k i (act_in (acts_at s k) i) e (walks_of asks s))
    c.self.view_is
    (acted_at sets k i e old new asks later ask below c.index_mut-place.ensures.value has c.note.ensures.all
    c.self.invariant.1 c.self.invariant.2 noted)
