-- The events of steps through a block lie in it: behind j steps the hart is at word j, or behind the last one, where no word is.
use Rattle.std.proofs.Common.{◌≡◌, ℕ, zero, suc, ◌+◌, ◌*◌, ◌%◌, ◌^◌, ◌<◌, ◌≤◌, ◌||◌, [], inl, inr, Bool, true, false}
use Rattle.std.proofs.Common.{Option, Some, None, is_some, refl, sym, ◌∙◌, ap, arith, All}
use Rattle.std.specs.Prelude.{if◌then◌else◌, ℤ}
use Rattle.std.proofs.lemmas.Bool.{cases_Bool, false≢true, or_parts}
use Rattle.std.proofs.lemmas.Bool.Decides.{nat_tests}
use Rattle.std.proofs.lemmas.List.Elements.{All-append}
use Rattle.flat_model.specs.declared.effects.Done.{Done}
use Rattle.flat_model.specs.declared.effects.Done.TheVariants.{Goes, Fails, Leaves}
use Rattle.flat_model.specs.Blocks.{StopsAfter}
use Rattle.flat_model.specs.Effect.{effect_of_word}
use Rattle.flat_model.specs.Image.{Program, word_at}
use Rattle.flat_model.specs.Permission.{spans_of}
use Rattle.flat_model.specs.Outcome.{outcome}
use Rattle.flat_model.specs.Step.{Stepped, after_done, starts_block, step_at, is_over, step_of, steps_of}
use Rattle.flat_model.specs.World.{Machine, HartState, Shared}
use Rattle.block_finder.specs.Block.{Stretch, IsBlock}
use Rattle.instr_lists.specs.Sorts.{IsInside, LiesIn}
use Rattle.rv_exec.specs.Going.{KeepsGroup}
use Rattle.rv_exec.specs.Laws.{IsBehindStart}
use Rattle.rv_exec.proofs.Afterwards.{tells}
use Rattle.rv_exec.proofs.Blocks.{blocks_follow}
use Rattle.rv_exec.proofs.Stepping.{running_at}
use Rattle.kept_order.specs.Lying.{GoesInside, EventsLieInBlocks}
use Rattle.kept_order.proofs.TellsInside.{step_lies}

-- Steps of a hart that may go on, and of one that may not.

none_is : {A : Type 0} → (o : Option A) → is_some o ≡ false → o ≡ None
none_is None is = refl
none_is (Some x) is = absurd (false≢true (sym is))

steps_over : (m : Machine) (h k : ℕ) (hart : HartState) (shared : Shared) → is_over hart shared ≡ true
    → steps_of m h k hart shared ≡ record { hart = hart; shared = shared; events = [] }
unfolding steps_of step_of
steps_over m h zero hart shared over = refl
steps_over m h (suc k) hart shared over = rw (steps_over m h k hart shared over, over) refl

-- a step parks no hart, and one that goes on leaves the group as it was
record Keeps (hart : HartState) (shared : Shared) (s : Stepped) : Type 0 where
  parked : s.hart.parked ≡ hart.parked
  group : s.hart.ending ≡ None → s.shared.group ≡ shared.group

done_parked : (limit : ℕ) (hart : HartState) (present ends : Bool) (done : Done)
    → (after_done limit hart present ends done).parked ≡ hart.parked
done_parked limit hart present ends (Goes rd value target) = refl
done_parked limit hart present ends (Fails kind) = refl
done_parked limit hart present ends (Leaves ending) = refl

done_group : (limit : ℕ) (hart : HartState) (present ends : Bool) (done : Done) (old new : Option ℤ)
    → KeepsGroup done old new → (after_done limit hart present ends done).ending ≡ None → new ≡ old
done_group limit hart present ends (Goes rd value target) old new keeps goes = keeps
done_group limit hart present ends (Fails kind) old new keeps goes = keeps
done_group limit hart present ends (Leaves ending) old new keeps goes = cc

step_keeps : (m : Machine) (h : ℕ) (hart : HartState) (shared : Shared) → Keeps hart shared (step_of m h hart shared)
unfolding step_of
step_keeps m h hart shared =
    let word = word_at m.image hart.pc in
    let o = outcome (spans_of m.image m.harts) m.harts h hart shared (effect_of_word hart word) in
    elim (is_over hart shared) as (λ b. Keeps hart shared
    (if b then (record { hart = hart; shared = shared; events = [] }) else step_at m h hart shared (word_at m.image hart.pc))) [
      | true ↦ record { parked = refl; group = λ goes. refl }
      | false ↦ record {
        parked = done_parked m.limit hart _ _ _;
        group = done_group m.limit hart _ _ o.done shared.group o.shared.group
            (tells (spans_of m.image m.harts) m.harts h hart shared (effect_of_word hart word)).group;
      }
    ]

-- a step where no word is ends its hart
absent_ends : (m : Machine) (h : ℕ) (hart : HartState) (shared : Shared)
    → hart.parked ≡ false → hart.ending ≡ None → shared.group ≡ None → word_at m.image hart.pc ≡ None
    → (step_of m h hart shared).hart.ending ≡ None → ⊥
absent_ends m h hart shared awake running quiet absent goes =
    let is = running_at m h hart shared None awake running quiet (sym absent) in
    let ends = sym (ap (λ (s : Stepped). s.hart.ending) is) ∙ goes in
    absurd (cc)

-- a block without words starts where no word is
nothing_there : (image : Program) (pc : ℕ) → StopsAfter image pc 0 → word_at image pc ≡ None
nothing_there image pc (inl full) = absurd (omega (arith, full))
nothing_there image pc (inr (inl page)) = absurd (omega (arith, page))
nothing_there image pc (inr (inr (inl absent))) = let e : pc + 4 * 0 ≡ pc = omega arith in sym (ap (word_at image) e) ∙ absent
nothing_there image pc (inr (inr (inr (last, is_last, ends)))) = absurd (omega (arith, is_last))

-- a hart that may go on, at the start of a block
pub record Starts (m : Machine) (hart : HartState) (shared : Shared) (block : Stretch) : Type 0 where
  pub is : IsBlock m.image hart.pc block
  pub since : hart.since ≡ 0
  pub aligned : hart.pc % 4 ≡ 0
  pub small : hart.pc < 2 ^ 64
  pub awake : hart.parked ≡ false
  pub quiet : shared.group ≡ None

abbrev pub AllInside : Machine → ℕ → ℕ → HartState → Shared → Type 0
AllInside m h k hart shared = (j : ℕ) → j < k → GoesInside j (steps_of m h j hart shared).hart

-- so many steps later it may still go on
record MayGo (s : Stepped) : Type 0 where
  awake : s.hart.parked ≡ false
  quiet : s.shared.group ≡ None

may_go : (m : Machine) (h k : ℕ) (hart : HartState) (shared : Shared) (block : Stretch) → Starts m hart shared block
    → AllInside m h (suc k) hart shared → MayGo (steps_of m h k hart shared)
unfolding steps_of
may_go m h zero hart shared block s inside = record { awake = s.awake; quiet = s.quiet }
may_go m h (suc k) hart shared block s inside =
    let before = steps_of m h k hart shared in
    let so_far = may_go m h k hart shared block s (λ j below. inside j (omega (arith, below))) in
    let keeps = step_keeps m h before.hart before.shared in
    record {
      awake = keeps.parked ∙ so_far.awake;
      quiet = keeps.group (inside (suc k) (omega arith)).running ∙ so_far.quiet;
    }

-- it is so far behind the block's start
behind : (m : Machine) (h k : ℕ) (hart : HartState) (shared : Shared) (block : Stretch) → Starts m hart shared block
    → AllInside m h (suc k) hart shared → k ≤ block.n
    → IsBehindStart m.image hart.pc block.n k (steps_of m h k hart shared).hart
behind m h k hart shared block s inside within =
    blocks_follow m h block.n k hart shared s.awake s.quiet s.since s.aligned s.small s.is.long within (inside k (omega arith)).running

absent_behind : (m : Machine) (h k : ℕ) (hart : HartState) (shared : Shared) (block : Stretch) → Starts m hart shared block
    → AllInside m h (suc k) hart shared → k ≡ block.n → word_at m.image (steps_of m h k hart shared).hart.pc ≡ None
unfolding steps_of
absent_behind m h zero hart shared block s inside last = nothing_there m.image hart.pc (rw (sym last) at s.is.long.stops)
absent_behind m h (suc k) hart shared block s inside last =
    elim ((behind m h (suc k) hart shared block s inside (omega arith)).behind last) [
      | inl at_start ↦
          let here : starts_block (steps_of m h (suc k) hart shared).hart ≡ false = (inside (suc k) (omega arith)).inside (omega arith) in
          absurd (grind (arith, nat_tests, here, at_start))
      | inr absent ↦ absent
    ]

-- no further than behind the last word, where its next step ends it
within : (m : Machine) (h k : ℕ) (hart : HartState) (shared : Shared) (block : Stretch) → Starts m hart shared block
    → AllInside m h (suc k) hart shared → k ≤ block.n
unfolding steps_of
within m h zero hart shared block s inside = omega arith
within m h (suc k) hart shared block s inside =
    let so_far : AllInside m h (suc k) hart shared = λ j below. inside j (omega (arith, below)) in
    let low : k ≤ block.n = within m h k hart shared block s so_far in
    let before = steps_of m h k hart shared in
    let may = may_go m h k hart shared block s so_far in
    let last : k ≡ block.n → ⊥ = λ is.
    absent_ends m h before.hart before.shared may.awake (so_far k (omega arith)).running may.quiet
    (absent_behind m h k hart shared block s so_far is) (inside (suc k) (omega arith)).running in
    omega (arith, low, last)

-- where a word is, it is one of the block
pub among_words : (m : Machine) (h k : ℕ) (hart : HartState) (shared : Shared) (block : Stretch) → Starts m hart shared block
    → AllInside m h (suc k) hart shared → (w : ℕ) → word_at m.image (steps_of m h k hart shared).hart.pc ≡ Some w → k < block.n
among_words m h k hart shared block s inside w present =
    let low = within m h k hart shared block s inside in
    let other : k ≡ block.n → ⊥ = λ last. let e = sym present ∙ absent_behind m h k hart shared block s inside last in absurd (cc) in
    omega (arith, low, other)

placed : (m : Machine) (h k : ℕ) (hart : HartState) (shared : Shared) (block : Stretch) → Starts m hart shared block
    → AllInside m h (suc k) hart shared → (w : ℕ) → word_at m.image (steps_of m h k hart shared).hart.pc ≡ Some w
    → IsInside block (steps_of m h k hart shared).hart.pc
placed m h k hart shared block s inside w present =
    let low = within m h k hart shared block s inside in
    let below = among_words m h k hart shared block s inside w present in
    record {
      word = k;
      within = let all = s.is.all in omega arith;
      place = (behind m h k hart shared block s inside low).inside below ∙ ap (λ (pc : ℕ). pc + 4 * k) (sym s.is.place);
    }

from_start : (m : Machine) (h k : ℕ) (hart : HartState) (shared : Shared) (block : Stretch) → Starts m hart shared block
    → AllInside m h k hart shared → All (λ e. LiesIn block e.what) (steps_of m h k hart shared).events
unfolding steps_of
from_start m h zero hart shared block s inside = λ k d below. absurd (omega (arith, below))
from_start m h (suc k) hart shared block s inside =
    let before = steps_of m h k hart shared in
    All-append (λ e. LiesIn block e.what) before.events (step_of m h before.hart before.shared).events
    (from_start m h k hart shared block s (λ j below. inside j (omega (arith, below))))
    (step_lies block m h before.hart before.shared (placed m h k hart shared block s inside))

-- a hart that may not go on tells nothing
pub events_lie_in_blocks : EventsLieInBlocks
events_lie_in_blocks m h k hart shared block is since aligned small inside =
    elim (cases_Bool (is_over hart shared)) [
      | inl over ↦ rw (steps_over m h k hart shared over) (λ k d below. absurd (omega (arith, below)))
      | inr goes ↦
          let parts = or_parts (hart.parked || is_some hart.ending) (is_some shared.group) goes in
          from_start m h k hart shared block (record {
            is = is;
            since = since;
            aligned = aligned;
            small = small;
            awake = (or_parts hart.parked (is_some hart.ending) parts.0).0;
            quiet = none_is shared.group parts.1;
          }) inside
    ]
