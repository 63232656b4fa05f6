-- What a clause says of a gate and of its passes.
use Rattle.std.specs.Prelude.{◌≡◌, ℕ, Bool, false, List, [], Option, Some, IsSome, slice_get}
use Rattle.crossbeam_queue.specs.Passes.{view, IsPassOf as IsPlaceOf}
use Rattle.baton_gate.specs.declared.views.Ended.{Ended}
use Rattle.baton_gate.specs.declared.views.View.{View}
use Rattle.baton_gate.specs.declared.passes.Pass.{Pass}
use Rattle.baton_gate.specs.declared.gate.Gate.{Gate}

module _ {S I F : Type 0} where
  -- what the pass knows
  abbrev pub known : Pass S I F → View I F
  known p = view p.place

  -- the log that the pass has seen
  abbrev pub seen : Pass S I F → List I
  seen p = (known p).seen

  abbrev pub holds : Pass S I F → Bool
  holds p = (known p).holds

  -- the frame that the pass carries
  abbrev pub carries : Pass S I F → Option F
  carries p = (known p).frame

  -- the log of the value that the gate was made with
  abbrev pub opening : Pass S I F → List I
  opening p = (known p).opening

  -- the number of parties of the gate
  abbrev pub parties : Pass S I F → ℕ
  parties p = (known p).parties

  -- the passes that were joined into this one
  abbrev pub ended : Pass S I F → List (Ended I)
  ended p = (known p).ended

  -- it is a pass of this gate
  pub record IsPassOf (gate : Gate S I F) (p : Pass S I F) : Type 0 where
    pub place : IsPlaceOf gate.queue p.place
    pub alive : (known p).spent ≡ false
    pub open_now : IsSome (known p).frame
    pub numbered : p.party ≡ (known p).party
    pub counted : parties p ≡ gate.parties

  -- it is a pass of a gate with that many parties, as it is made: it has this number, has seen the opening log, and holds nothing
  pub record IsNewPass (gate : Gate S I F) (p : Pass S I F) (number count : ℕ) (log : List I) (frame : F) : Type 0 where
    pub of_gate : IsPassOf gate p
    pub number_is : p.party ≡ number
    pub count_is : parties p ≡ count
    pub seen_is : seen p ≡ log
    pub opening_is : opening p ≡ log
    pub frame_is : carries p ≡ Some frame
    pub free : holds p ≡ false
    pub none_ended : ended p ≡ []
    pub no_takes : p.takes ≡ 0

  -- each pass of a gate as it is made, in the order of their numbers
  abbrev pub AreNew : Gate S I F → List (Pass S I F) → ℕ → List I → F → Type 0
  AreNew gate passes count log frame = (k : ℕ) (p : Pass S I F) → slice_get passes k ≡ Some p → IsNewPass gate p k count log frame
