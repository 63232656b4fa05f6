-- What a hart's part of a hold makes of its seat.
use Rattle.std.specs.Prelude.{◌≡◌, ◌<◌, ◌≤◌, ℕ, true, false, List, ◌∷◌, None, IsSome, Option, MatchOption, replicate}
use Rattle.flat_model.specs.declared.plugins.Ask.TheVariants.{Stay}
use Rattle.flat_model.specs.declared.journals.Item.{Item}
use Rattle.flat_model.specs.declared.journals.Item.TheVariants.{Left}
use Rattle.baton_gate.specs.Logs.{GoesOn}
use Rattle.run_order.specs.InOrder.{Task}
use Rattle.host_state.specs.Moving.{IsPrivateTurn}
use Rattle.host_state.specs.State.{StateValue}
use Rattle.host_state.specs.Taking.{IsGotBy}
use Rattle.hart_runner.specs.declared.going_ahead.Ahead.{Ahead}
use Rattle.hart_runner.specs.declared.holding.Hold.{Hold}
use Rattle.hart_runner.specs.declared.holding.Hold.TheVariants.{Turned, GaveBack, Waits, Leaves}
use Rattle.hart_runner.specs.declared.seats.Seat.{Seat}
use Rattle.hart_runner.specs.declared.tapes.Piece.{Piece}
use Rattle.hart_runner.specs.Seats.{IsBack, IsSeated, HasWritten, Own}
use Rattle.hart_runner.specs.Holds.{IsAsleep, HasMade}

-- hart h left with its last item
pub record HasLeftThen (h : ℕ) (taken now : List Item) : Type 0 where
  pub before : List Item
  pub last : now ≡ Left h ∷ before
  pub own : Own h taken before

module _ {W : Type 0} where
  -- in a hold as it begins: a seat whose hart is parked or has ended
  pub record ComesStill (s : StateValue) (seat : Seat W) : Type 0 where
    pub back : IsBack s.task seat.no s.past seat.hart seat.attached seat.specs seat.asks.first
    pub asleep : seat.hart.parked ≡ true → IsAsleep s.task seat.no s.past seat.hart
    pub quiet : seat.hart.parked ≡ true → seat.asks.first ≡ replicate 8 Stay
    pub ended : seat.hart.parked ≡ false → IsSome seat.hart.ending
    pub begins : seat.hart.ending ≡ None → seat.hart.since ≡ 0
    pub below : seat.hart.ending ≡ None → seat.hart.steps < s.task.machine.limit

  -- and one whose hart runs, and has gone ahead in its block
  pub record ComesAhead (s : StateValue) (seat : Seat W) (ahead : Ahead) : Type 0 where
    pub back : IsBack s.task seat.no s.past seat.hart seat.attached seat.specs seat.asks.first
    pub awake : seat.hart.parked ≡ false
    pub running : seat.hart.ending ≡ None
    pub begins : seat.hart.since ≡ 0
    pub below : seat.hart.steps < s.task.machine.limit
    pub image : seat.image.value ≡ s.task.machine.image
    pub ran : IsPrivateTurn s.task.machine.image s.task.machine.limit seat.no ahead.ran seat.hart ahead.hart seat.raw.events

  -- what a hold leaves of the seat as it was; the sets of a hart change with the number of its lists
  pub record KeepsLists (old new : Seat W) : Type 0 where
    pub number : new.no ≡ old.no
    pub image : new.image ≡ old.image
    pub limit : new.limit ≡ old.limit
    pub lists : new.generation ≡ old.generation → new.specs ≡ old.specs
    pub rises : old.generation ≤ new.generation
    pub kept : new.raw.kept ≡ old.raw.kept

  -- the seat after the hart's part: there is none once it has left, and only a parked hart waits
  abbrev pub IsStillPart : Hold → Task → List Item → List Item → Seat W → Option (Seat W) → Type 0
  IsStillPart Turned t taken past old now = ⊥
  IsStillPart GaveBack t taken past old now = MatchOption now ⊥ (λ seat.
      (IsSeated t seat.no past seat.hart seat.attached seat.specs seat.asks.first × HasWritten taken past) × KeepsLists old seat)
  IsStillPart Waits t taken past old now = MatchOption now ⊥ (λ seat.
      (IsSeated t seat.no past seat.hart seat.attached seat.specs seat.asks.first × GoesOn (IsGotBy seat.no) taken past
      × (old.hart.parked ≡ true)) × KeepsLists old seat)
  IsStillPart Leaves t taken past old now = (now ≡ None) × HasLeftThen old.no taken past

  abbrev pub IsPart : Hold → Task → List Item → List Item → List Piece → Seat W → Option (Seat W) → Type 0
  IsPart Turned t taken past pieces old now = MatchOption now ⊥ (λ seat.
      (HasMade t seat.no past seat.hart seat.attached seat.specs seat.raw.events old.hart.pc pieces × HasWritten taken past)
      × KeepsLists old seat)
  IsPart GaveBack t taken past pieces old now = IsStillPart GaveBack t taken past old now
  IsPart Waits t taken past pieces old now = IsStillPart Waits t taken past old now
  IsPart Leaves t taken past pieces old now = IsStillPart Leaves t taken past old now
