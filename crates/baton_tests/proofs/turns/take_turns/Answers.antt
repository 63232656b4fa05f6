use Rattle.std.proofs.Common.{ap, subst, ◌∙◌, slice_get}
use Rattle.baton_tests.specs.Boxes.{KnowsBoxes}
use Rattle.baton_tests.proofs.BothLemmas.{starts, has_both}
use Rattle.baton_tests.proofs.turns.take_turns.Goals as goal

pub join-first-requires-after_bounds : goal.join-first-requires-after_bounds
join-first-requires-after_bounds g c κs within =
    let empty = ap (λ s. s.log) (c.in_ok-shelf.ensures.ok ∙ c.new.ensures) in
    let new = c.in_ok-gate.ensures.passes in
    let first = starts c.in_ok-gate.gate c.both_of-first.result.0 0 _ _ empty (new 0 _ (ap (λ l. slice_get l 0) c.both_of-first.ensures)) in
    let second = starts c.in_ok-gate.gate c.both_of-first.result.1 1 _ _ empty (new 1 _ (ap (λ l. slice_get l 1) c.both_of-first.ensures)) in
    ((first.0, (first.1, c.requires.blank.0)), (second.0, (second.1, c.requires.blank.1)))

pub returns : goal.returns
returns g c =
    let new = c.in_ok-gate.ensures.passes in
    let first = new 0 _ (ap (λ l. slice_get l 0) c.both_of-first.ensures) in
    let second = new 1 _ (ap (λ l. slice_get l 1) c.both_of-first.ensures) in
    let done = rw c.in_ok-first.was at c.join-first.ensures.first in
    let done' = rw c.in_ok-second.was at c.join-first.ensures.second in
    has_both g.W.Listener.stands c.in_ok-gate.gate c.in_ok-first.first c.in_ok-second.field-0 c.join.new.pass _ _ _ c.into_boxes.result.items _ _
    first.number_is second.number_is done done' c.join.ensures.pass.0 c.join.ensures.pass.1 c.take-shelf.ensures.log c.take-shelf.ensures.ended c.take-shelf.ensures.parties
    (subst (λ s. KnowsBoxes g.W.Listener.stands c.into_boxes.result.items s.log) c.into_inner.ensures c.into_boxes.ensures)
