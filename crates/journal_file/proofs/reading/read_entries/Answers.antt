use Rattle.std.proofs.Common.{◌≡◌, ◌++◌, ◌∷◌, [], ◌∙◌, ap, sym, subst, false, None}
use Rattle.std.specs.Prelude.{IfSome}
use Rattle.std.proofs.lemmas.Result.{err_from_is_err_and}
use Rattle.flat_model.specs.Log.{are_one, last_turn, turning}
use Rattle.run_journal.specs.Journal.{IsSmall, joined_turn}
use Rattle.run_journal.proofs.Recorded.{joined_turn-alone, last_turn-push}
use Rattle.journal_file.specs.Reading.{entries_at}
use Rattle.journal_file.proofs.Loop.{entries-go_on, entries-end, entries-done}
use Rattle.journal_file.proofs.reading.read_entries.Goals as goal

pub returns-in_err-entry : goal.returns-in_err-entry
returns-in_err-entry c =
    let p = err_from_is_err_and c.from_residual.result c.from_residual.ensures.1 in
    rw (p.1, p.2) (entries-end c.in_err-entry.field-0.0 c.loop-place.journal.entries c.loop-place.last c.args.count c.loop-place.place c.loop-place.rest.now (entries_at 0 None c.args.count c.args.bytes.now) c.loop-place-test.true c.in_err-entry.ensures.entry c.loop-place.invariant.0)

pub push-requires-clause-fits : goal.push-requires-clause-fits
push-requires-clause-fits c =
    let front = c.loop-place.journal.entries in
    let other : are_one (last_turn None front) (turning c.in_ok-entry.entry) ≡ false = subst (λ last. are_one last (turning c.in_ok-entry.entry) ≡ false) c.loop-place.invariant.1 c.in_ok-entry.ensures.other in
    let same : c.reserve.new.self.entries ≡ front = c.in-Ok-reserve.ensures.entries in
    subst (λ turn. IfSome turn IsSmall) (sym (ap (λ es. joined_turn es c.in_ok-entry.entry) same ∙ joined_turn-alone front c.in_ok-entry.entry other)) tt

pub loop-place-preserved : goal.loop-place-preserved
loop-place-preserved c =
    let front = c.loop-place.journal.entries in
    let e = c.in_ok-entry.entry in
    let other : are_one (last_turn None front) (turning e) ≡ false = subst (λ last. are_one last (turning e) ≡ false) c.loop-place.invariant.1 c.in_ok-entry.ensures.other in
    let same : c.reserve.new.self.entries ≡ front = c.in-Ok-reserve.ensures.entries in
    let pushed : c.push.new.self.entries ≡ front ++ e ∷ [] = c.push.ensures.alone (ap (λ es. are_one (last_turn None es) (turning e)) same ∙ other) ∙ ap (λ es. es ++ e ∷ []) same in
    let goes_on = entries-go_on front c.loop-place.last c.args.count c.loop-place.place c.loop-place.rest.now e c.in_ok-entry.after.now (entries_at 0 None c.args.count c.args.bytes.now) c.loop-place-test.true c.in_ok-entry.ensures.entry c.loop-place.invariant.0 in
    rw (pushed, c.hart_of-last.ensures) (goes_on, sym (last_turn-push None front e))

pub returns : goal.returns
returns c = entries-done c.loop-place.journal.entries c.loop-place.last c.args.count c.loop-place.place c.loop-place.rest.now (entries_at 0 None c.args.count c.args.bytes.now) c.loop-place-test.false c.loop-place.invariant.0
