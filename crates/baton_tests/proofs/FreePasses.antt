-- The passes of a new gate hold nothing.
use Rattle.std.proofs.Common.{◌≡◌, ℕ, List, Some, All, slice_get}
use Rattle.std.proofs.lemmas.Option.{slice_get-get_or}
use Rattle.baton_gate.specs.declared.passes.Pass.{Pass}
use Rattle.baton_gate.specs.declared.gate.Gate.{Gate}
use Rattle.baton_gate.specs.Passes.{IsNewPass}
use Rattle.baton_tests.specs.Turns.{IsFree}

module _ {S I F : Type 0} where
  pub new_free : (gate : Gate S I F) (p : Pass S I F) (number count : ℕ) (log : List I) (frame : F) → IsNewPass gate p number count log frame → IsFree gate p
  new_free gate p number count log frame new = record { of_gate = new.of_gate; free = new.free }

  pub all_free : (gate : Gate S I F) (passes : List (Pass S I F)) (count : ℕ) (log : List I) (frame : F)
      → ((k : ℕ) (p : Pass S I F) → slice_get passes k ≡ Some p → IsNewPass gate p k count log frame) → All (IsFree gate) passes
  all_free gate passes count log frame new k d l = new_free gate _ k count log frame (new k _ (slice_get-get_or passes k d l))
