-- A run with one step more.
use Rattle.std.proofs.Common.{◌≡◌, ℕ, ◌+◌, ◌<◌, ◌≤◌, inl, inr, Bool, true, false, if◌then◌else◌}
use Rattle.std.proofs.Common.{List, [], ◌++◌, Option, Some, None, is_some}
use Rattle.std.proofs.Common.{refl, sym, ◌∙◌, ap, append_assoc, append-nil, add-one, below_more, arith}
use Rattle.std.proofs.lemmas.Bool.{cases_lt}
use Rattle.std.proofs.lemmas.Bool.Decides.{nat_tests}
use Rattle.flat_model.specs.declared.events.Ending.{Ending}
use Rattle.flat_model.specs.declared.events.Event.{Event}
use Rattle.flat_model.specs.Image.{Program}
use Rattle.flat_model.specs.World.{Machine, HartState, Shared}
use Rattle.flat_model.specs.Step.{starts_block, steps_of, IsPrivateStep}
use Rattle.rv_exec.specs.declared.steps.Private.TheVariants.{Did}
use Rattle.rv_exec.specs.declared.steps.Private.TheVariants as private
use Rattle.private_runs.specs.Runs.{ArePrivateSteps, GoesOn, AreOfRun, Stops}

-- what is shared in some world whose group hasn't ended
abbrev pub some_shared : Shared
some_shared = record { bytes = λ _. 0; reserved = λ _. None; output = []; group = None; starts = λ _. None }

pub no_steps : (image : Program) (limit h : ℕ) (hart : HartState) (events : List Event)
    → ArePrivateSteps image limit h 0 hart hart events events
unfolding steps_of
no_steps image limit h hart events =
    record { given = []; appended = sym (append-nil events); in_every_world = λ harts shared quiet. refl }

pub one_more : (image : Program) (limit h k : ℕ) (old mid new : HartState) (before told after : List Event)
    → ArePrivateSteps image limit h k old mid before told → IsPrivateStep image limit h mid new told after
    → ArePrivateSteps image limit h (k + 1) old new before after
unfolding steps_of
one_more image limit h k old mid new before told after so_far step = record {
  given = so_far.given ++ step.given;
  appended = step.appended ∙ ap (λ l. l ++ step.given) so_far.appended ∙ append_assoc before so_far.given step.given;
  in_every_world = λ harts shared quiet.
      rw (add-one, so_far.in_every_world harts shared quiet, step.in_every_world harts shared quiet) refl;
}

pub none_of_run : (image : Program) (limit h : ℕ) (hart : HartState) → AreOfRun image limit h 0 hart
none_of_run image limit h hart harts shared quiet j below = absurd (omega arith)

pub more_of_run : (image : Program) (limit h k : ℕ) (old mid : HartState) (before told : List Event)
    → AreOfRun image limit h k old → ArePrivateSteps image limit h k old mid before told → GoesOn image k mid
    → AreOfRun image limit h (k + 1) old
more_of_run image limit h k old mid before told all so_far goes harts shared quiet =
    let m : Machine = record { image = image; harts = harts; limit = limit } in
    below_more (λ j. GoesOn image j (steps_of m h j old shared).hart) k (all harts shared quiet)
    (rw (so_far.in_every_world harts shared quiet) goes)

pub shared_next : (b : Bool) → private.Shared ≡ (if b then private.Shared else Did) → b ≡ true
shared_next true is = refl
shared_next false is = cc

-- what was no shared step was at a word that touches nothing that is shared
pub did_lone : (b : Bool) → Did ≡ (if b then private.Shared else Did) → b ≡ false
did_lone true is = cc
did_lone false is = refl

-- where the next step starts no block
pub started : (hart : HartState) → starts_block hart ≡ true → 0 < hart.since → ⊥
started hart starts on = grind (arith, nat_tests)

pub not_started : (hart : HartState) → 0 < hart.since → starts_block hart ≡ false
not_started hart on = grind (arith, nat_tests)

pub is_none : (ending : Option Ending) → is_some ending ≡ false → ending ≡ None
is_none None is = refl
is_none (Some ending) is = cc

-- A run that has stopped goes no further.

stopped_here : (image : Program) (most k : ℕ) (hart : HartState) → Stops image most k hart → k < most → GoesOn image k hart → ⊥
stopped_here image most k hart (inl full) below goes = omega arith
stopped_here image most k hart (inr (inl ended)) below goes =
    absurd (let e : true ≡ false = sym ended ∙ ap (λ (e : Option Ending). is_some e) goes.running in cc)
stopped_here image most k hart (inr (inr (inl starts))) below goes =
    let inside : starts_block hart ≡ false = goes.inside starts.0 in
    absurd (let e : true ≡ false = sym starts.1 ∙ inside in cc)
stopped_here image most k hart (inr (inr (inr shared))) below goes =
    absurd (let e : true ≡ false = sym shared ∙ goes.lone in cc)

pub no_longer : (image : Program) (limit h most k : ℕ) (old new : HartState) (before after : List Event)
    → ArePrivateSteps image limit h k old new before after → Stops image most k new
    → (j : ℕ) → j ≤ most → AreOfRun image limit h j old → j ≤ k
no_longer image limit h most k old new before after steps stops j within all =
    elim (cases_lt k j) [
      | inr low ↦ low
      | inl above ↦ absurd (stopped_here image most k new stops (omega arith)
          (rw (steps.in_every_world 0 some_shared refl) at (all 0 some_shared refl k above)))
    ]

pub starts : (hart : HartState) → hart.since ≡ 0 → starts_block hart ≡ true
starts hart none = rw none refl
