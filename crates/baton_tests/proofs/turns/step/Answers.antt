use Rattle.std.proofs.Common.{ℕ, List, sym, ap, ◌∙◌, subst, [], ◌∷◌, ◌++◌}
use Rattle.baton_tests.specs.declared.entries.Entry.{Entry}
use Rattle.baton_tests.specs.Shelf.{HasBox, heard_by}
use Rattle.baton_tests.proofs.TurnLemmas.{after_note, at_hold, may_give, on_ok, still_of_two}
use Rattle.baton_tests.proofs.turns.step.Goals as goal

pub note-noted-requires : goal.note-noted-requires
note-noted-requires g c =
    let hold = at_hold c.args.pass.now c.take-shelf.new.pass _ _ c.deref_mut.result.now c.party.ensures c.take-shelf.ensures.pass.1 c.take-shelf.ensures.pass.0 c.deref_mut.ensures.value c.take-shelf.ensures.log in
    hold.own c.requires.own

pub give-requires-clause-log : goal.give-requires-clause-log
give-requires-clause-log g c =
    let hold = at_hold c.args.pass.now c.take-shelf.new.pass _ _ c.deref_mut.result.now c.party.ensures c.take-shelf.ensures.pass.1 c.take-shelf.ensures.pass.0 c.deref_mut.ensures.value c.take-shelf.ensures.log in
    let noted = after_note c.note-noted.result _ c.note-noted.new.self _ c.args.number c.note-noted.ensures.ok c.note-noted.ensures.err in
    may_give _ _ _ _ _ hold noted.adds

pub returns-clause-work : goal.returns-clause-work
returns-clause-work g c =
    let hold = at_hold c.args.pass.now c.take-shelf.new.pass _ _ c.deref_mut.result.now c.party.ensures c.take-shelf.ensures.pass.1 c.take-shelf.ensures.pass.0 c.deref_mut.ensures.value c.take-shelf.ensures.log in
    let noted = after_note c.note-noted.result _ c.note-noted.new.self _ c.args.number c.note-noted.ensures.ok c.note-noted.ensures.err in
    on_ok c.note-noted.result noted.heard
    (λ _. record {
      between = record { of_gate = c.give.ensures.gate; free = ap (λ v. v.holds) c.give.ensures.pass.0 };
      party_is = c.give.ensures.pass.1 ∙ c.take-shelf.ensures.pass.1;
      of_two = still_of_two c.args.pass.now c.take-shelf.new.pass c.give.new.pass _ _ c.requires.of_two c.take-shelf.ensures.pass.0 c.give.ensures.pass.0;
      own = subst (λ (y : ℕ × List Entry). HasBox y.0 y.1) (λ i. (hold.hart_is i, sym (ap (λ v. v.seen) c.give.ensures.pass.0) i)) (noted.own (hold.own c.requires.own));
    })

pub returns-clause-heard : goal.returns-clause-heard
returns-clause-heard g c =
    let hold = at_hold c.args.pass.now c.take-shelf.new.pass _ _ c.deref_mut.result.now c.party.ensures c.take-shelf.ensures.pass.1 c.take-shelf.ensures.pass.0 c.deref_mut.ensures.value c.take-shelf.ensures.log in
    let noted = after_note c.note-noted.result _ c.note-noted.new.self _ c.args.number c.note-noted.ensures.ok c.note-noted.ensures.err in
    on_ok c.note-noted.result noted.heard
    (λ e. ap (λ (y : ℕ × List Entry). heard_by y.0 y.1) (λ i. (sym hold.hart_is i, ap (λ v. v.seen) c.give.ensures.pass.0 i)) ∙ e ∙ ap (λ l. l ++ c.args.number ∷ []) hold.heard)
