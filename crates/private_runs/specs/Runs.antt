-- Private runs: steps of one hart in a row that touch nothing that is shared and stay in one block.
use Rattle.std.specs.Prelude.{◌≡◌, ◌<◌, ◌+◌, ◌*◌, ◌⊎◌, ℕ, true, false, List, ◌++◌, None, IsSome}
use Rattle.flat_model.specs.declared.events.Event.{Event}
use Rattle.flat_model.specs.Image.{Program, word_at}
use Rattle.flat_model.specs.World.{HartState, Shared}
use Rattle.flat_model.specs.Effect.{word_touches_shared}
use Rattle.flat_model.specs.Step.{starts_block, steps_of}

-- k steps of hart h from old to new in every world whose group hasn't ended, which change nothing that is shared; their
-- events are appended
pub record ArePrivateSteps (image : Program) (limit h k : ℕ) (old new : HartState) (before after : List Event) : Type 0 where
  pub given : List Event
  pub appended : after ≡ before ++ given
  pub in_every_world : (harts : ℕ) (shared : Shared) → shared.group ≡ None
      → steps_of (record { image = image; harts = harts; limit = limit }) h k old shared
      ≡ record { hart = new; shared = shared; events = given }

-- a hart k steps into a run whose next step belongs to the run: it runs, its next word touches nothing that is shared,
-- and only the first step may start a block
pub record GoesOn (image : Program) (k : ℕ) (hart : HartState) : Type 0 where
  pub running : hart.ending ≡ None
  pub lone : word_touches_shared (word_at image hart.pc) ≡ false
  pub inside : 0 < k → starts_block hart ≡ false

-- each of hart h's next k steps belongs to a run, in every world whose group hasn't ended
abbrev pub AreOfRun : Program → ℕ → ℕ → ℕ → HartState → Type 0
AreOfRun image limit h k hart =
    (harts : ℕ) (shared : Shared) → shared.group ≡ None → (j : ℕ) → j < k
    → GoesOn image j (steps_of (record { image = image; harts = harts; limit = limit }) h j hart shared).hart

-- why a run of at most so many steps stops behind k steps: it has as many, the hart has ended, the next step starts a
-- block, or the next word touches what is shared
abbrev pub Stops : Program → ℕ → ℕ → HartState → Type 0
Stops image most k hart =
    (k ≡ most) ⊎ (IsSome hart.ending ⊎ (((0 < k) × (starts_block hart ≡ true)) ⊎ (word_touches_shared (word_at image hart.pc) ≡ true)))

-- where k steps have led to no block's start, they went from word to word
pub record GoesStraightBy (k : ℕ) (old new : HartState) : Type 0 where
  pub next : new.ending ≡ None → 0 < new.since → new.pc ≡ old.pc + 4 * k
  pub counted : new.ending ≡ None → 0 < new.since → new.since ≡ old.since + k
