use Rattle.std.proofs.Common.{ℕ, List, sym, ap, ◌∙◌, subst, Contains}
use Rattle.baton_tests.specs.declared.entries.Entry.{Entry}
use Rattle.baton_tests.specs.Shelf.{heard_by, parked_in, IsTold}
use Rattle.baton_tests.proofs.TurnLemmas.{after_park, at_hold, may_give, on_ok, still_of_two}
use Rattle.baton_tests.proofs.turns.put_away.Goals as goal

pub park-parked-requires-clause-own : goal.park-parked-requires-clause-own
park-parked-requires-clause-own g c =
    let hold = at_hold c.args.pass.now c.take-shelf.new.pass _ _ c.deref_mut.result.now c.party.ensures c.take-shelf.ensures.pass.1 c.take-shelf.ensures.pass.0 c.deref_mut.ensures.value c.take-shelf.ensures.log in
    hold.own c.requires.work.own

pub park-parked-requires-clause-heard : goal.park-parked-requires-clause-heard
park-parked-requires-clause-heard g c =
    let hold = at_hold c.args.pass.now c.take-shelf.new.pass _ _ c.deref_mut.result.now c.party.ensures c.take-shelf.ensures.pass.1 c.take-shelf.ensures.pass.0 c.deref_mut.ensures.value c.take-shelf.ensures.log in
    subst (g.W.Listener.stands c.args.listener) (sym hold.heard) c.requires.heard

pub give-requires-clause-caught_up : goal.give-requires-clause-caught_up
give-requires-clause-caught_up g c =
    let parked = after_park c.park-parked.result _ c.park-parked.new.self _ c.park-parked.ensures.ok c.park-parked.ensures.err in
    parked.told (subst IsTold (sym c.deref_mut.ensures.value) c.take-shelf.ensures.caught_up)

pub give-requires-clause-log : goal.give-requires-clause-log
give-requires-clause-log g c =
    let hold = at_hold c.args.pass.now c.take-shelf.new.pass _ _ c.deref_mut.result.now c.party.ensures c.take-shelf.ensures.pass.1 c.take-shelf.ensures.pass.0 c.deref_mut.ensures.value c.take-shelf.ensures.log in
    let parked = after_park c.park-parked.result _ c.park-parked.new.self _ c.park-parked.ensures.ok c.park-parked.ensures.err in
    may_give _ _ _ _ _ hold parked.adds

pub returns : goal.returns
returns g c =
    let hold = at_hold c.args.pass.now c.take-shelf.new.pass _ _ c.deref_mut.result.now c.party.ensures c.take-shelf.ensures.pass.1 c.take-shelf.ensures.pass.0 c.deref_mut.ensures.value c.take-shelf.ensures.log in
    let parked = after_park c.park-parked.result _ c.park-parked.new.self _ c.park-parked.ensures.ok c.park-parked.ensures.err in
    let seen_is = ap (λ v. v.seen) c.give.ensures.pass.0 in
    on_ok c.park-parked.result parked.parked
    (λ there. record {
      between = record { of_gate = c.give.ensures.gate; free = ap (λ v. v.holds) c.give.ensures.pass.0 };
      party_is = c.give.ensures.pass.1 ∙ c.take-shelf.ensures.pass.1;
      of_two = still_of_two c.args.pass.now c.take-shelf.new.pass c.give.new.pass _ _ c.requires.work.of_two c.take-shelf.ensures.pass.0 c.give.ensures.pass.0;
      heard = ap (λ (y : ℕ × List Entry). heard_by y.0 y.1) (λ i. (sym hold.hart_is i, seen_is i)) ∙ parked.heard ∙ hold.heard;
      parked = subst (λ (y : ℕ × List Entry). Contains (parked_in y.1) y.0) (λ i. (hold.hart_is i, sym seen_is i)) there;
    })
