-- A run with one step more.
use Rattle.std.proofs.Common.{◌≡◌, ℕ, zero, suc, ◌+◌, ◌*◌, ◌<◌, ◌≤◌, false, None, List, [], ◌++◌, length, min}
use Rattle.std.proofs.Common.{refl, sym, ◌∙◌, ap, append_assoc, append-nil, add-one, below_more, arith}
use Rattle.std.proofs.lemmas.Bool.Decides.{nat_tests}
use Rattle.flat_model.specs.declared.events.Event.{Event}
use Rattle.flat_model.specs.Image.{Program}
use Rattle.flat_model.specs.World.{Machine, HartState, Shared}
use Rattle.flat_model.specs.Step.{starts_block, step_of, steps_of, IsSharedStep}
use Rattle.guest_memory.specs.Memory.{MemoryState, harts_of}
use Rattle.rv_exec.specs.Going.{TellsFew}
use Rattle.rv_exec.specs.Sharing.{machine_on}
use Rattle.shared_runs.specs.Runs.{AreSharedSteps, RunsOn}

not_started : (hart : HartState) → 0 < hart.since → starts_block hart ≡ false
not_started hart on = grind (arith, nat_tests)

pub no_steps : (m : Machine) (h : ℕ) (hart : HartState) (shared : Shared) (events : List Event)
    → AreSharedSteps m h 0 hart hart shared shared events events
unfolding steps_of
no_steps m h hart shared events = record { given = []; appended = sym (append-nil events); steps = refl }

-- a step with a memory of as many harts
pub one_more : (image : Program) (first memory : MemoryState) (limit h k : ℕ) (old mid new : HartState) (shared between left : Shared)
    (before told after : List Event)
    → harts_of memory ≡ harts_of first
    → AreSharedSteps (machine_on image first limit) h k old mid shared between before told
    → IsSharedStep (machine_on image memory limit) h mid new between left told after
    → AreSharedSteps (machine_on image first limit) h (k + 1) old new shared left before after
unfolding steps_of
one_more image first memory limit h k old mid new shared between left before told after same so_far step =
    let of_harts : ℕ → Machine = λ n. record { image = image; harts = n; limit = limit } in
    let here : step_of (machine_on image first limit) h mid between ≡ record { hart = new; shared = left; events = step.given } =
    ap (λ n. step_of (of_harts n) h mid between) (sym same) ∙ step.step in
    record {
      given = so_far.given ++ step.given;
      appended = step.appended ∙ ap (λ l. l ++ step.given) so_far.appended ∙ append_assoc before so_far.given step.given;
      steps = rw (add-one, so_far.steps, here) refl;
    }

pub none_run : (m : Machine) (h : ℕ) (hart : HartState) (shared : Shared) → (j : ℕ) → j < 0 → RunsOn (steps_of m h j hart shared)
none_run m h hart shared j below = absurd (omega arith)

pub more_run : (m : Machine) (h k : ℕ) (old mid : HartState) (shared between : Shared) (before told : List Event)
    → ((j : ℕ) → j < k → RunsOn (steps_of m h j old shared))
    → AreSharedSteps m h k old mid shared between before told
    → mid.parked ≡ false → mid.ending ≡ None → between.group ≡ None
    → (j : ℕ) → j < k + 1 → RunsOn (steps_of m h j old shared)
more_run m h k old mid shared between before told all so_far awake running quiet =
    below_more (λ j. RunsOn (steps_of m h j old shared)) k all
    (rw so_far.steps (record { awake = awake; running = running; going_on = quiet }))

pub none_inside : (m : Machine) (h : ℕ) (hart : HartState) (shared : Shared) (j : ℕ) → 0 < j → j < 0
    → starts_block (steps_of m h j hart shared).hart ≡ false
none_inside m h hart shared j some below = absurd (omega arith)

pub more_inside : (m : Machine) (h k since : ℕ) (old mid : HartState) (shared between : Shared) (before told : List Event)
    → ((j : ℕ) → 0 < j → j < k → starts_block (steps_of m h j old shared).hart ≡ false)
    → AreSharedSteps m h k old mid shared between before told
    → mid.since ≡ since + k
    → (j : ℕ) → 0 < j → j < k + 1 → starts_block (steps_of m h j old shared).hart ≡ false
more_inside m h k since old mid shared between before told all so_far counted j some below =
    below_more (λ j. 0 < j → starts_block (steps_of m h j old shared).hart ≡ false) k (λ j low some. all j some low)
    (λ some. rw so_far.steps (not_started mid (omega (arith, counted)))) j below some

-- the events of the steps so far: 5 of the first one at most, and 3 of each later one
pub tells_few : (old new : HartState) (before after : List Event) (i j : ℕ)
    → TellsFew old new before after → new.ending ≡ None → old.since ≡ i → j ≡ i + 1
    → length before ≤ 3 * i + 2 * min i 1
    → length after ≤ 3 * j + 2 * min j 1
tells_few old new before after zero j few ran since next was = let more = few.going_on ran in omega (arith, more, was)
tells_few old new before after (suc i) j few ran since next was =
    let inside : starts_block old ≡ false = not_started old (omega (arith, since)) in
    let more = few.going_on_inside ran inside in
    omega (arith, more, was)
