use Rattle.std.proofs.Common.{◌≡◌, false, List, length, All}
use Rattle.std.specs.Vec.Iter.{into_iter_items, into_iter_len}
use Rattle.flat_model.specs.declared.journals.Item.{Item}
use Rattle.flat_model.specs.Log.{party}
use Rattle.baton_gate.specs.Logs.{Ahead}
use Rattle.baton_gate.specs.Passes.{IsPassOf, ended, holds, known, seen}
use Rattle.baton_gate.specs.declared.views.Ended.{Ended}
use Rattle.host_core.specs.Stages.{IsOver}
use Rattle.host_core.proofs.finishing.join_all.Given as goal

abbrev pub invariant-loop-runner : goal.invariant-loop-runner
invariant-loop-runner g l = record {
  count : into_iter_len l.runner-iterator ≡ length (into_iter_items l.runner-iterator);
  gate : IsPassOf l.gate l.own;
  free : holds l.own ≡ false;
  same : known l.own ≡ record (known l.fn.own) { ended = ended l.own };
  number : l.own.party ≡ l.fn.own.party;
  over : All (λ r. IsOver l.gate r.pass) (into_iter_items l.runner-iterator);
  ended : (log : List Item) → All (λ (e : Ended Item). Ahead party log e.party e.seen) (ended l.own)
      → All (λ r. Ahead party log r.pass.party (seen r.pass)) (into_iter_items l.runner-iterator)
      → All (λ r. Ahead party log r.pass.party (seen r.pass)) l.fn.runners.items;
}
