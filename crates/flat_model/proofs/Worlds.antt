-- Runs of one hart in a log.
use Rattle.std.proofs.Common.{◌≡◌, ℕ, zero, suc, ◌==◌, true, List, [], ◌∷◌, ◌++◌, length, map, refl, sym, ◌∙◌}
use Rattle.std.proofs.Common.{ap, append_assoc, arith}
use Rattle.std.proofs.lemmas.List.{map-append, append-nil}
use Rattle.std.proofs.lemmas.Bool.Decides.{nat_tests}
use Rattle.flat_model.specs.declared.events.Event.{Event}
use Rattle.flat_model.specs.declared.journals.Mode.{Mode}
use Rattle.flat_model.specs.declared.journals.Item.{Item}
use Rattle.flat_model.specs.declared.journals.Item.TheVariants.{Step}
use Rattle.flat_model.specs.World.{Machine, World, HartState, Shared}
use Rattle.flat_model.specs.Step.{Stepped, step_of, step, steps_of}
use Rattle.flat_model.specs.Log.{steps}
use Rattle.flat_model.specs.Worlds.{world, hart_of, next_step, Placed, placed, events, unplaced, IsRunOf, RunsAlone, TellsItsSteps}
use Rattle.flat_model.specs.Worlds.{TellsByStepsAlone}

same : (h : ℕ) → (h == h) ≡ true
same h = grind (arith, nat_tests)

unplaced_placed : (place : ℕ) (es : List Event) → unplaced (map (placed place) es) ≡ es
unplaced_placed place [] = refl
unplaced_placed place (e ∷ es) = ap (λ (l : List Event). e ∷ l) (unplaced_placed place es)

-- a hart after its own step, and what that leaves
stepped_hart : (m : Machine) (w : World) (h : ℕ) → (step m w h).harts h ≡ (step_of m h (w.harts h) w.shared).hart
unfolding step
stepped_hart m w h = rw (same h) refl

stepped_shared : (m : Machine) (w : World) (h : ℕ) → (step m w h).shared ≡ (step_of m h (w.harts h) w.shared).shared
unfolding step
stepped_shared m w h = refl

pub tells_its_steps : TellsItsSteps
unfolding events
tells_its_steps m mode h past =
    rw (same h) (map-append (λ (e : Placed). e.event) (events m mode h past) (map (placed (length past)) (next_step m mode past h).events)
    ∙ ap (λ l. unplaced (events m mode h past) ++ l) (unplaced_placed (length past) (next_step m mode past h).events))

pub tells_by_steps_alone : TellsByStepsAlone
unfolding events
tells_by_steps_alone m mode h hart past other = rw other (ap unplaced (append-nil (events m mode h past)))

pub runs_alone : RunsAlone
unfolding world steps_of
runs_alone m mode h zero past = record { hart = refl; shared = refl; events = sym (append-nil (unplaced (events m mode h past))) }
runs_alone m mode h (suc n) past =
    let before = steps_of m h n (hart_of m mode past h) (world m mode past).shared in
    let ih : IsRunOf m mode h n past before = runs_alone m mode h n past in
    let w = world m mode (steps h n past) in
    let next : next_step m mode (steps h n past) h ≡ step_of m h before.hart before.shared =
    ap (λ (k : HartState). step_of m h k w.shared) ih.hart ∙ ap (λ (s : Shared). step_of m h before.hart s) ih.shared in
    record {
      hart = stepped_hart m w h ∙ ap (λ (s : Stepped). s.hart) next;
      shared = stepped_shared m w h ∙ ap (λ (s : Stepped). s.shared) next;
      events =
          tells_its_steps m mode h (steps h n past)
          ∙ ap (λ l. l ++ (next_step m mode (steps h n past) h).events) ih.events
          ∙ ap (λ (s : Stepped). (unplaced (events m mode h past) ++ before.events) ++ s.events) next
          ∙ append_assoc (unplaced (events m mode h past)) before.events (step_of m h before.hart before.shared).events;
    }
