-- The events of one step.
use Rattle.std.proofs.Common.{◌≡◌, ◌+◌, ◌*◌, ◌∙◌, ℕ, Some, None, sym, ap, subst, arith, inl, inr}
use Rattle.flat_model.specs.Blocks.{StopsAfter}
use Rattle.flat_model.specs.Image.{Program, word_at}
use Rattle.flat_model.specs.Worlds.{world, hart_of}
use Rattle.block_finder.specs.Block.{Stretch, IsBlock}
use Rattle.instr_lists.specs.Sorts.{IsInside}
use Rattle.kept_order.proofs.TellsInside.{step_lies}
use Rattle.replay_order.specs.Steps.{StepsLie}

-- a block without words starts where no word is
nothing_there : (image : Program) (pc : ℕ) → StopsAfter image pc 0 → word_at image pc ≡ None
nothing_there image pc (inl full) = absurd (omega (arith, full))
nothing_there image pc (inr (inl page)) = absurd (omega (arith, page))
nothing_there image pc (inr (inr (inl absent))) = let e : pc + 4 * 0 ≡ pc = omega arith in sym (ap (word_at image) e) ∙ absent
nothing_there image pc (inr (inr (inr (last, is_last, ends)))) = absurd (omega (arith, is_last))

-- a block at a word has it
has_word : (image : Program) (pc : ℕ) (block : Stretch) (w : ℕ) → IsBlock image pc block → word_at image pc ≡ Some w → IsInside block pc
has_word image pc block w is present =
    let some : block.n ≡ 0 → ⊥ = λ none.
    let e = sym present ∙ nothing_there image pc (subst (λ (n : ℕ). StopsAfter image pc n) none is.long.stops) in absurd (cc) in
    record {
      word = 0;
      within = let all = is.all in omega (arith, some, all);
      place = let place = is.place in omega (arith, place);
    }

pub steps_lie : StepsLie
steps_lie t h past block is =
    let hart = hart_of t.machine t.mode past h in
    step_lies block t.machine h hart (world t.machine t.mode past).shared (λ w present. has_word t.machine.image hart.pc block w is present)
