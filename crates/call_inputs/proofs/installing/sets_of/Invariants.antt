use Rattle.std.proofs.Common.{◌≡◌, map, take, All, None, Ok}
use Rattle.flat_model.specs.Registry.{set_refusal}
use Rattle.run_script.specs.Words.{spelt}
use Rattle.call_inputs.proofs.installing.sets_of.Given as goal

-- the words so far spell the sets so far
abbrev pub invariant-loop-i : goal.invariant-loop-i
invariant-loop-i l = record {
  spelt : map spelt (take l.i (map (λ w. w.now) l.words)) ≡ map (λ set. Ok set) l.sets.items;
  sound : All (λ set. set_refusal set ≡ None) l.sets.items;
}
