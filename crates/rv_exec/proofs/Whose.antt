-- Whose the events of a step are.
use Rattle.std.proofs.Common.{ℕ, zero, suc, ◌+◌, ◌&&◌, ◌==◌, Bool, true, false, if◌then◌else◌, List, ◌++◌}
use Rattle.std.proofs.Common.{◌∷◌, []}
use Rattle.std.proofs.Common.{Option, Some, None}
use Rattle.std.proofs.Common.{is_some, refl, arith, All}
use Rattle.flat_model.specs.declared.events.What.{What}
use Rattle.flat_model.specs.declared.events.What.TheVariants.{Init, Block}
use Rattle.flat_model.specs.declared.events.Ending.{Ending}
use Rattle.flat_model.specs.Image.{word_at}
use Rattle.flat_model.specs.Permission.{spans_of}
use Rattle.flat_model.specs.Blocks.{length_of}
use Rattle.flat_model.specs.World.{Machine, HartState, Shared}
use Rattle.flat_model.specs.Effect.{effect_of_word}
use Rattle.flat_model.specs.Outcome.{outcome}
use Rattle.flat_model.specs.Step.{starts_block, first_told, block_told, word_told, start_told, exit_told, as_events, hart_after}
use Rattle.flat_model.specs.Step.{step_at, is_over, step_of}
use Rattle.rv_exec.specs.Laws.{IsOfStep, EventsAreOfTheirStep}
use Rattle.rv_exec.proofs.Afterwards.{EachAt, tells}

joined : (pc : ℕ) (xs ys : List What) → EachAt pc xs → EachAt pc ys → EachAt pc (xs ++ ys)
joined pc [] ys first second = second
joined pc (x ∷ xs) ys first second = (first.0, joined pc xs ys first.1 second)

first_at : (pc : ℕ) (b : Bool) → EachAt pc (if b then Init ∷ [] else [])
first_at pc true = (tt, tt)
first_at pc false = tt

block_at : (pc n : ℕ) (b : Bool) → EachAt pc (if b then Block pc n ∷ [] else [])
block_at pc n true = (refl, tt)
block_at pc n false = tt

insn_at : (pc : ℕ) (word : Option ℕ) → EachAt pc (word_told pc word)
insn_at pc None = tt
insn_at pc (Some word) = (refl, tt)

exit_at : (pc : ℕ) (ending : Option Ending) → EachAt pc (exit_told ending)
exit_at pc None = tt
exit_at pc (Some ending) = (tt, tt)

of_step : (h step pc : ℕ) (whats : List What) → EachAt pc whats → All (IsOfStep h step pc) (as_events h step whats)
of_step h step pc [] each k d below = absurd (omega (arith, below))
of_step h step pc (what ∷ whats) each zero d below = record { hart = refl; number = refl; place = each.0 }
of_step h step pc (what ∷ whats) each (suc k) d below = of_step h step pc whats each.1 k d (omega (arith, below))

at_word : (m : Machine) (h : ℕ) (hart : HartState) (shared : Shared) (word : Option ℕ)
    → All (IsOfStep h (hart.steps + 1) hart.pc) (step_at m h hart shared word).events
at_word m h hart shared word =
    let o = outcome (spans_of m.image m.harts) m.harts h hart shared (effect_of_word hart word) in
    let n = length_of m.image hart.pc in
    of_step h (hart.steps + 1) hart.pc (start_told hart word n ++ (o.told ++ exit_told (hart_after m.limit hart word o.done).ending))
    (joined hart.pc (start_told hart word n) (o.told ++ exit_told (hart_after m.limit hart word o.done).ending)
    (joined hart.pc (first_told hart) (block_told hart word n ++ word_told hart.pc word) (first_at hart.pc (hart.steps == 0))
    (joined hart.pc (block_told hart word n) (word_told hart.pc word) (block_at hart.pc n (starts_block hart && is_some word))
    (insn_at hart.pc word)))
    (joined hart.pc o.told (exit_told (hart_after m.limit hart word o.done).ending)
    (tells (spans_of m.image m.harts) m.harts h hart shared (effect_of_word hart word)).here
    (exit_at hart.pc (hart_after m.limit hart word o.done).ending)))

pub events_are_of_their_step : EventsAreOfTheirStep
unfolding step_of
events_are_of_their_step m h hart shared =
    elim (is_over hart shared) as (λ b. All (IsOfStep h (hart.steps + 1) hart.pc)
    (if b then (record { hart = hart; shared = shared; events = [] }) else step_at m h hart shared (word_at m.image hart.pc)).events) [
      | true ↦ λ k d below. absurd (omega (arith, below))
      | false ↦ at_word m h hart shared (word_at m.image hart.pc)
    ]
