-- The steps of a log alone make what the log makes.
use Rattle.std.proofs.Common.{◌≡◌, ◌∙◌, ℕ, List, [], ◌∷◌, ◌++◌, not, refl, sym, ap, nat_lt, ◌&&◌}
use Rattle.flat_model.specs.declared.events.Event.{Event}
use Rattle.flat_model.specs.declared.journals.Item.{Item}
use Rattle.flat_model.specs.declared.journals.Item.TheVariants.{Step, Ordered, GaveBack, Left, Told, Got, Took}
use Rattle.flat_model.specs.declared.journals.Mode.{Mode}
use Rattle.flat_model.specs.Step.{step, step_of, is_over}
use Rattle.flat_model.specs.World.{Machine, World}
use Rattle.flat_model.specs.Worlds.{world, next_step}
use Rattle.lock_step.specs.Runs.{can_step, IsRun}
use Rattle.lock_step.specs.Tellings.{all_told}
use Rattle.lock_step.specs.Positions.{steps_alone}

pub alone_world : (m : Machine) (mode : Mode) (past : List Item) → world m mode (steps_alone past) ≡ world m mode past
unfolding world
alone_world m mode [] = refl
alone_world m mode (Step h ∷ past) = ap (λ (w : World). step m w h) (alone_world m mode past)
alone_world m mode (Ordered origin order ∷ past) = alone_world m mode past
alone_world m mode (GaveBack h plugin ∷ past) = alone_world m mode past
alone_world m mode (Left h ∷ past) = alone_world m mode past
alone_world m mode (Told party plugin ∷ past) = alone_world m mode past
alone_world m mode (Got h plugin ∷ past) = alone_world m mode past
alone_world m mode (Took party plugin ∷ past) = alone_world m mode past

pub alone_told : (m : Machine) (mode : Mode) (past : List Item) → all_told m mode (steps_alone past) ≡ all_told m mode past
unfolding all_told
alone_told m mode [] = refl
alone_told m mode (Step h ∷ past) =
    ap (λ (l : List Event). l ++ (next_step m mode (steps_alone past) h).events) (alone_told m mode past)
    ∙ ap (λ (w : World). all_told m mode past ++ (step_of m h (w.harts h) w.shared).events) (alone_world m mode past)
alone_told m mode (Ordered origin order ∷ past) = alone_told m mode past
alone_told m mode (GaveBack h plugin ∷ past) = alone_told m mode past
alone_told m mode (Left h ∷ past) = alone_told m mode past
alone_told m mode (Told party plugin ∷ past) = alone_told m mode past
alone_told m mode (Got h plugin ∷ past) = alone_told m mode past
alone_told m mode (Took party plugin ∷ past) = alone_told m mode past

pub alone_can : (m : Machine) (mode : Mode) (past : List Item) (h : ℕ) → can_step m mode (steps_alone past) h ≡ can_step m mode past h
alone_can m mode past h = ap (λ (w : World). nat_lt h m.harts && not (is_over (w.harts h) w.shared)) (alone_world m mode past)

pub alone_run : (m : Machine) (mode : Mode) (past : List Item) → IsRun m mode (steps_alone past) → IsRun m mode past
unfolding IsRun
alone_run m mode [] runs = tt
alone_run m mode (Step h ∷ past) runs = (alone_run m mode past runs.0, sym (alone_can m mode past h) ∙ runs.1)
alone_run m mode (Ordered origin order ∷ past) runs = alone_run m mode past runs
alone_run m mode (GaveBack h plugin ∷ past) runs = alone_run m mode past runs
alone_run m mode (Left h ∷ past) runs = alone_run m mode past runs
alone_run m mode (Told party plugin ∷ past) runs = alone_run m mode past runs
alone_run m mode (Got h plugin ∷ past) runs = alone_run m mode past runs
alone_run m mode (Took party plugin ∷ past) runs = alone_run m mode past runs
