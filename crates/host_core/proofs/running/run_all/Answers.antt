use Rattle.std.proofs.Common.{◌≡◌, ◌<◌, ℕ, arith, length, sym, subst}
use Rattle.std.specs.Prelude.{IfOk, slice_index_or}
use Rattle.host_core.specs.Stages.{IsOver}
use Rattle.host_core.proofs.MappedJobs.{IsLike, results_like, to_ok}
use Rattle.host_core.proofs.running.run_all.Goals as goal

pub returns-clause-over : goal.returns-clause-over
returns-clause-over g c =
    to_ok c.all_ok.result _ _
    (λ all is. (results_like c.args.runners.items all.items c.in_ok-results.results.items (λ r. IsOver c.args.gate.now r.pass)
    (λ r. r.pass.party) is (omega (arith, c.in_ok-results.ensures.len))
    (λ i d e low.
    let it = (c.in_ok-results.ensures.each i d low).1 in
    subst (λ j. IfOk (slice_index_or c.in_ok-results.results.items i d)
    (IsLike (λ r. IsOver c.args.gate.now r.pass) (λ r. r.pass.party) j)) (sym (it.job_is e)) it.call.met)).0)
    c.all_ok.ensures.all

pub returns-clause-parties : goal.returns-clause-parties
returns-clause-parties g c =
    to_ok c.all_ok.result _ _
    (λ all is. (results_like c.args.runners.items all.items c.in_ok-results.results.items (λ r. IsOver c.args.gate.now r.pass)
    (λ r. r.pass.party) is (omega (arith, c.in_ok-results.ensures.len))
    (λ i d e low.
    let it = (c.in_ok-results.ensures.each i d low).1 in
    subst (λ j. IfOk (slice_index_or c.in_ok-results.results.items i d)
    (IsLike (λ r. IsOver c.args.gate.now r.pass) (λ r. r.pass.party) j)) (sym (it.job_is e)) it.call.met)).1)
    c.all_ok.ensures.all
