-- Turns one after the other.
use Rattle.std.proofs.Common.{◌≡◌, ◌∙◌, ℕ, List, Option, Some, None, Result, Ok, refl, sym, subst, ap}
use Rattle.std.specs.Prelude.{IsSome, IfOk, MatchOption}
use Rattle.flat_model.specs.declared.journals.Item.{Item}
use Rattle.flat_model.specs.declared.refusals.NoMemory.{NoMemory}
use Rattle.flat_model.specs.Image.{Program}
use Rattle.baton_gate.specs.declared.views.View.{View}
use Rattle.block_finder.specs.Caches.{MayServe}
use Rattle.run_order.specs.InOrder.{Task}
use Rattle.hart_runner.specs.declared.runners.Turned.{Turned}
use Rattle.hart_runner.specs.declared.runners.Turned.TheVariants.{Went, Left, Waited}
use Rattle.hart_runner.specs.declared.seats.Seat.{Seat}
use Rattle.hart_runner.specs.Turns.{HasLeftLast, IsDone, Sits}
use Rattle.hart_runner.proofs.Heard.{some_task}

-- a pass that has seen more, twice
pub same_again : {I F : Type 0} (a b c : View I F) → b ≡ record a { seen = b.seen } → c ≡ record b { seen = c.seen }
    → c ≡ record a { seen = c.seen }
same_again {I} {F} a b c first next = next ∙ ap (λ (v : View I F). record v { seen = c.seen }) first

-- a hart that goes on hasn't left
pub went_on : (turned : Turned) → turned ≡ Went → turned ≡ Left → ⊥
went_on turned is left = let both : Went ≡ Left = sym is ∙ left in absurd cc

pub waited_on : (turned : Turned) → turned ≡ Waited → turned ≡ Left → ⊥
waited_on turned is left = let both : Waited ≡ Left = sym is ∙ left in absurd cc

module _ {W : Type 0} where
  -- what a turn tells
  abbrev pub Done : Option Task → Result Turned NoMemory → ℕ → List Item → List Item → Option (Seat W) → Type 0
  Done o r h seen now place = (t : Task) → o ≡ Some t → IfOk r (λ turned. IsDone turned t h seen now place)

  done_at : (o : Option Task) (r : Result Turned NoMemory) (turned : Turned) (h : ℕ) (seen now : List Item) (place : Option (Seat W))
      → Done o r h seen now place → r ≡ Ok turned → (t : Task) → o ≡ Some t → IsDone turned t h seen now place
  done_at o r turned h seen now place done is t e =
      subst (λ (x : Result Turned NoMemory). IfOk x (λ turned. IsDone turned t h seen now place)) is (done t e)

  -- the hart has left
  pub has_left_last : (o : Option Task) (r : Result Turned NoMemory) (turned : Turned) (h k : ℕ) (seen now : List Item)
      (place : Option (Seat W)) → IsSome o → k ≡ h → Done o r h seen now place → r ≡ Ok turned → turned ≡ Left
      → HasLeftLast k now × (place ≡ None)
  has_left_last o r turned h k seen now place some number done is left =
      let task = some_task o some in
      let did : IsDone Left task.0 h seen now place =
      subst (λ (x : Turned). IsDone x task.0 h seen now place) left (done_at o r turned h seen now place done is task.0 task.1) in (
        subst (λ (n : ℕ). HasLeftLast n now) (sym number) (record { before = did.gone.what.before; last = did.gone.what.last }),
        did.placed,
      )

  still_placed : (turned : Turned) (t : Task) (h : ℕ) (seen now : List Item) (place : Option (Seat W)) → (turned ≡ Left → ⊥)
      → IsDone turned t h seen now place → MatchOption place ⊥ (Sits t h now)
  still_placed Went t h seen now place other done = done.placed
  still_placed Left t h seen now place other done = absurd (other refl)
  still_placed Waited t h seen now place other done = done.placed

  -- or sits in order again
  pub sits_on : (o p : Option Task) (r : Result Turned NoMemory) (turned : Turned) (h k : ℕ) (seen now : List Item) (place : Option (Seat
      W))
      → p ≡ o → k ≡ h → Done o r h seen now place → r ≡ Ok turned → (turned ≡ Left → ⊥) → (t : Task) → p ≡ Some t
      → MatchOption place ⊥ (Sits t k now)
  sits_on o p r turned h k seen now place same number done is other t e =
      subst (λ (n : ℕ). MatchOption place ⊥ (Sits t n now)) (sym number)
      (still_placed turned t h seen now place other (done_at o r turned h seen now place done is t (sym same ∙ e)))

  pub seat_there : (o : Option Task) (h : ℕ) (now : List Item) (place : Option (Seat W)) (P : Seat W → Type 0) → IsSome o
      → ((t : Task) → o ≡ Some t → MatchOption place ⊥ (Sits t h now)) → MatchOption place (Unit {0}) P → MatchOption place ⊥ P
  seat_there o h now None P some sits is = let task = some_task o some in absurd (sits task.0 task.1)
  seat_there o h now (Some seat) P some sits is = is

pub serves_on : (o p : Option Task) (cache : Option Program) → p ≡ o → ((t : Task) → o ≡ Some t → MayServe cache t.machine.image)
    → (t : Task) → p ≡ Some t → MayServe cache t.machine.image
serves_on o p cache same serves t e = serves t (sym same ∙ e)
