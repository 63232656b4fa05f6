use Rattle.std.proofs.Common.{◌≡◌, ◌++◌, ◌∷◌, [], ◌∙◌, ap, cond, true, is_ok, length-append, arith}
use Rattle.std.proofs.lemmas.Result.{err_from_is_err_and}
use Rattle.journal_file.specs.Reading.{subs_at}
use Rattle.journal_file.proofs.Loop.{subs-go_on, subs-end, subs-done}
use Rattle.journal_file.proofs.plugins.read_subs.Goals as goal

pub returns-in_err-sub : goal.returns-in_err-sub
returns-in_err-sub c =
    let p = err_from_is_err_and c.from_residual.result c.from_residual.ensures.1 in
    rw (p.1, p.2) (record {
      subscriptions = subs-end c.in_err-sub.field-0.0 c.loop.subs.items c.args.count c.loop.counter c.loop.rest.now (subs_at c.args.count c.args.bytes.now) c.loop-test.true c.in_err-sub.ensures c.loop.invariant.0;
      number = tt;
    })

pub loop-preserved : goal.loop-preserved
loop-preserved c =
    let ok : is_ok c.push.result ≡ true = c.if-is_err.ensures.negation in
    let front = c.loop.subs.items in
    let pushed : c.push.new.self.items ≡ front ++ c.in_ok-sub.sub ∷ [] = c.push.ensures.items ∙ ap (λ b. cond b (front ++ c.in_ok-sub.sub ∷ []) front) ok in
    let goes_on = subs-go_on front c.args.count c.loop.counter c.loop.rest.now c.in_ok-sub.sub c.in_ok-sub.after.now (subs_at c.args.count c.args.bytes.now) c.loop-test.true c.in_ok-sub.ensures c.loop.invariant.0 in
    rw pushed (goes_on, omega (arith, length-append front (c.in_ok-sub.sub ∷ []), c.loop.invariant.1))

pub returns-clause-subscriptions : goal.returns-clause-subscriptions
returns-clause-subscriptions c = subs-done c.loop.subs.items c.args.count c.loop.counter c.loop.rest.now (subs_at c.args.count c.args.bytes.now) c.loop-test.false c.loop.invariant.0
