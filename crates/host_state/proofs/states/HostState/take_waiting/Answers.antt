use Rattle.std.proofs.Common.{refl, ◌∙◌}
use Rattle.std.proofs.lemmas.List.{with_items_is}
use Rattle.host_state.specs.declared.arrivals.Arrival.{Arrival}
use Rattle.host_state.proofs.WaitingSets.{row_is_below, place_is_below, untaken, taken_away}
use Rattle.host_state.proofs.states.HostState.take_waiting.Goals as goal

pub take_at-requires-clause-row : goal.take_at-requires-clause-row
take_at-requires-clause-row g c =
    row_is_below (λ (a : Arrival g.row.W.Denot). a.set) (λ (a : Arrival g.row.W.Denot). a.spec) _ _ c.self.invariant
    c.self.view_is c.args.no c.args.plugin c.requires.least c.requires.most c.requires.there
    c.self.inside.waiting.items refl refl _ _ _ c.deref_mut.ensures.value c.from.ensures c.from-2.ensures

pub take_at-requires-clause-place : goal.take_at-requires-clause-place
take_at-requires-clause-place g c =
    place_is_below (λ (a : Arrival g.row.W.Denot). a.set) (λ (a : Arrival g.row.W.Denot). a.spec) _ _ c.self.invariant
    c.self.view_is c.args.no c.args.plugin c.requires.least c.requires.most c.requires.there
    c.self.inside.waiting.items refl refl _ _ _ c.deref_mut.ensures.value c.from.ensures c.from-2.ensures

pub invariant_of-self : goal.invariant_of-self
invariant_of-self g c =
    (untaken (λ (a : Arrival g.row.W.Denot). a.set) (λ (a : Arrival g.row.W.Denot). a.spec) _ _ c.self.invariant
    c.self.view_is c.args.no c.args.plugin c.requires.least c.requires.most c.requires.there
    c.self.inside.waiting.items refl refl _ _ _ c.deref_mut.ensures.value c.from.ensures c.from-2.ensures
    _ c.take_at.ensures.taken _ _ c.take_at.ensures.left
    (with_items_is c.self.inside.waiting c.take_at.new.rows (c.take_at.auto.rows ∙ c.deref_mut.ensures.len)) c.in_err-arrival.was).sound

pub returns-in_err-arrival : goal.returns-in_err-arrival
returns-in_err-arrival g c =
    let left = untaken (λ (a : Arrival g.row.W.Denot). a.set) (λ (a : Arrival g.row.W.Denot). a.spec) _ _ c.self.invariant
    c.self.view_is c.args.no c.args.plugin c.requires.least c.requires.most c.requires.there
    c.self.inside.waiting.items refl refl _ _ _ c.deref_mut.ensures.value c.from.ensures c.from-2.ensures
    _ c.take_at.ensures.taken _ _ c.take_at.ensures.left
    (with_items_is c.self.inside.waiting c.take_at.new.rows (c.take_at.auto.rows ∙ c.deref_mut.ensures.len)) c.in_err-arrival.was in
    rw c.from_residual.ensures (record { taken = (left.none, left.same) })

pub invariant_of-self-2 : goal.invariant_of-self-2
invariant_of-self-2 g c =
    (taken_away (λ (a : Arrival g.row.W.Denot). a.set) (λ (a : Arrival g.row.W.Denot). a.spec) _ _ c.self.invariant
    c.self.view_is c.args.no c.args.plugin c.requires.least c.requires.most c.requires.there
    c.self.inside.waiting.items refl refl _ _ _ c.deref_mut.ensures.value c.from.ensures c.from-2.ensures
    _ c.take_at.ensures.taken _ _ c.take_at.ensures.left
    (with_items_is c.self.inside.waiting c.take_at.new.rows (c.take_at.auto.rows ∙ c.deref_mut.ensures.len))
    c.in_ok-arrival.arrival _ _ c.in_ok-arrival.was c.in-Some-Live.field-0-is c.in-Some-Live.ensures
    c.with_item-self-inside.ensures.item).sound

pub returns : goal.returns
returns g c =
    record {
      taken = (taken_away (λ (a : Arrival g.row.W.Denot). a.set) (λ (a : Arrival g.row.W.Denot). a.spec) _ _ c.self.invariant
          c.self.view_is c.args.no c.args.plugin c.requires.least c.requires.most c.requires.there
          c.self.inside.waiting.items refl refl _ _ _ c.deref_mut.ensures.value c.from.ensures c.from-2.ensures
          _ c.take_at.ensures.taken _ _ c.take_at.ensures.left
          (with_items_is c.self.inside.waiting c.take_at.new.rows (c.take_at.auto.rows ∙ c.deref_mut.ensures.len))
          c.in_ok-arrival.arrival _ _ c.in_ok-arrival.was c.in-Some-Live.field-0-is c.in-Some-Live.ensures
          c.with_item-self-inside.ensures.item).out;
    }
