-- What holds of the steps of the flat machine: whose their events are, and where the next block starts.
use Rattle.std.specs.Prelude.{◌≡◌, ◌<◌, ◌≤◌, ◌+◌, ◌*◌, ◌%◌, ◌^◌, ◌⊎◌, ℕ, false, None, All}
use Rattle.flat_model.specs.declared.events.What.{What}
use Rattle.flat_model.specs.declared.events.What.TheVariants.{Block, Insn, Mem}
use Rattle.flat_model.specs.declared.events.Event.{Event}
use Rattle.flat_model.specs.Image.{Program, word_at}
use Rattle.flat_model.specs.Blocks.{IsLength}
use Rattle.flat_model.specs.World.{Machine, HartState, Shared}
use Rattle.flat_model.specs.Step.{step_of, steps_of}

-- an event that tells a pc tells this one
abbrev pub IsAt : ℕ → What → Type 0
IsAt pc (Block at n) = at ≡ pc
IsAt pc (Insn at word) = at ≡ pc
IsAt pc (Mem at addr shift signed rw read written) = at ≡ pc
IsAt pc _ = Unit {0}

-- the event is of this step of hart h, at this pc
pub record IsOfStep (h step pc : ℕ) (e : Event) : Type 0 where
  pub hart : e.hart ≡ h
  pub number : e.step ≡ step
  pub place : IsAt pc e.what

-- each event of a step has its hart, its number and its pc
abbrev pub EventsAreOfTheirStep : Type 0
EventsAreOfTheirStep =
    (m : Machine) (h : ℕ) (hart : HartState) (shared : Shared)
    → All (IsOfStep h (hart.steps + 1) hart.pc) (step_of m h hart shared).events

-- the hart is k steps behind the start of a block of n words: at its word k, or behind the last one, where the next
-- step starts a block, unless no word is there
pub record IsBehindStart (image : Program) (start n k : ℕ) (hart : HartState) : Type 0 where
  pub inside : k < n → hart.pc ≡ start + 4 * k
  pub counted : k < n → hart.since ≡ k
  pub behind : k ≡ n → (hart.since ≡ 0) ⊎ (word_at image hart.pc ≡ None)

-- from the start of a block of n words the next block starts after n steps
abbrev pub BlocksFollow : Type 0
BlocksFollow =
    (m : Machine) (h n k : ℕ) (hart : HartState) (shared : Shared)
    → hart.parked ≡ false → shared.group ≡ None
    → hart.since ≡ 0 → hart.pc % 4 ≡ 0 → hart.pc < 2 ^ 64 → IsLength m.image hart.pc n → k ≤ n
    → (steps_of m h k hart shared).hart.ending ≡ None
    → IsBehindStart m.image hart.pc n k (steps_of m h k hart shared).hart
