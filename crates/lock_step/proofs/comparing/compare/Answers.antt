use Rattle.std.proofs.Common.{ap, subst, arith}
use Rattle.flat_model.specs.Log.{log}
use Rattle.lock_step.specs.Walks.{WalkState}
use Rattle.lock_step.specs.Tellings.{all_told, of_hart}
use Rattle.lock_step.specs.Comparing.{told_by}
use Rattle.lock_step.specs.Verdicts.{IsVerdict}
use Rattle.lock_step.proofs.Judging.{judges, by_telling, index_fits}
use Rattle.lock_step.proofs.comparing.compare.Goals as goal

pub returns-in-Some : goal.returns-in-Some
returns-in-Some c =
    let h = c.args.hart in
    let first = c.in_ok-one.one in
    let second = c.in_ok-other.other in
    let v = c.in-Some.verdict in
    record {
      verdict = by_telling (record { image = c.args.image.now; harts = c.args.harts; limit = c.args.limit }) c.args.mode h
          (log c.args.first.now.entries) (log c.args.second.now.entries) v
          (subst (λ (w : WalkState). IsVerdict (of_hart h (all_told (record {
            image = c.args.image.now;
            harts = c.args.harts;
            limit = c.args.limit;
          }) c.args.mode (log c.args.first.now.entries))) (told_by h w) v) c.in_ok-other.ensures.opening
          (subst (λ (w : WalkState). IsVerdict (told_by h w) (told_by h second) v) c.in_ok-one.ensures.opening
          (judges h c.both.index first second c.both.one c.both.other c.next_of.new.walk c.next_of-in-both.new.walk c.in_ok-next.next
          c.in_ok-beside.beside v c.both.invariant c.in_ok-next.ensures.found c.in_ok-beside.ensures.found c.in-Some.ensures.judged)));
    }

pub overflow_add-index : goal.overflow_add-index
overflow_add-index c =
    let same = c.in_default.ensures.judged in
    let small = index_fits c.args.hart c.both.index c.args.harts c.args.limit c.in_ok-one.one c.in_ok-other.other c.both.one c.both.other
    c.next_of.new.walk c.in_ok-next.next same.0 c.both.invariant c.in_ok-next.ensures.found same.1
    (ap (λ (w : WalkState). w.machine.limit) c.in_ok-one.ensures.opening) c.requires.some_hart c.requires.steps in
    omega (arith, small)
