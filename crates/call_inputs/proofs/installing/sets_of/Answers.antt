use Rattle.std.proofs.Common.{◌≡◌, ℕ, List, []}
use Rattle.std.proofs.lemmas.List.Elements.{All-push}
use Rattle.flat_model.specs.declared.plugins.SetSpec.{SetSpec}
use Rattle.flat_model.specs.Registry.{set_refusal}
use Rattle.std.proofs.Common.{None}
use Rattle.call_inputs.proofs.Spelt.{more_of, broken_of}
use Rattle.call_inputs.proofs.installing.sets_of.Goals as goal

pub returns-in-Err-clause-cases : goal.returns-in-Err-clause-cases
returns-in-Err-clause-cases c =
    broken_of _ c.args.words.now c.loop-i.i _ c.loop-i.sets.items c.in-Err.refusal c.loop-i-test.true c.loop-i.invariant.spelt
    c.in-Err.ensures.cases

pub loop-i-preserved : goal.loop-i-preserved
loop-i-preserved c = record {
  spelt = rw c.in-Ok-push.ensures.items
      (more_of _ c.args.words.now c.loop-i.i _ c.loop-i.sets.items c.in-Ok.set c.loop-i-test.true c.loop-i.invariant.spelt c.in-Ok.ensures.cases);
  sound = rw c.in-Ok-push.ensures.items
      (All-push (λ (set : SetSpec). set_refusal set ≡ None) c.loop-i.sets.items c.in-Ok.set c.loop-i.invariant.sound c.in-Ok.ensures.sound);
}
