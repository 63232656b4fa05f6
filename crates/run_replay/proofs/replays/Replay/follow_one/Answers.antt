use Rattle.std.proofs.Common.{◌≡◌, ◌+◌, ◌<◌, ◌≤◌, ◌∙◌, ℕ, refl, sym, ap, subst, arith, length}
use Rattle.std.specs.Prelude.{slice_index_or}
use Rattle.std.proofs.lemmas.Bool.{false≢true}
use Rattle.flat_model.specs.declared.journals.Entry.{Entry}
use Rattle.run_journal.specs.Journal.{JournalState}
use Rattle.run_order.specs.InOrder.{task_run}
use Rattle.run_replay.specs.Replays.{IsRefusedAs}
use Rattle.run_replay.proofs.Entries.{told_by, line_is, follows_own, breaks_own}
use Rattle.run_replay.proofs.replays.Replay.follow_one.Goals as goal

pub follow_next-requires-clause-told : goal.follow_next-requires-clause-told
follow_next-requires-clause-told g c =
    let s = c.args.self.now.state in
    told_by s c.args.entries.now c.args.place c.task.ensures.order c.requires.ahead (omega (arith, c.requires.within))
    (omega (arith, c.if-place-len.true, c.len.ensures, ap (λ (j : JournalState). length j.entries) c.journal.ensures.journal))

pub is_line-requires : goal.is_line-requires
is_line-requires g c =
    let s = c.args.self.now.state in
    record {
      line = line_is s c.args.entries.now c.args.place c.get.result.now c.requires.ahead (omega (arith, c.requires.within))
          (omega (arith, c.if-place-len.false, c.len.ensures, ap (λ (j : JournalState). length j.entries) c.journal.ensures.journal))
          (c.get.ensures
          ∙ ap (λ (j : JournalState). slice_index_or j.entries c.args.place c.get.result.now) c.journal-2.ensures.journal);
    }

pub returns-then-is_line-clause-ahead : goal.returns-then-is_line-clause-ahead
returns-then-is_line-clause-ahead g c =
    let s = c.args.self.now.state in
    follows_own s c.args.entries.now c.args.place c.entry_at.result.now c.get.result.now c.requires.ahead c.requires.within
    (omega (arith, c.if-place-len.false, c.len.ensures, ap (λ (j : JournalState). length j.entries) c.journal.ensures.journal))
    c.entry_at.ensures.entry
    (c.get.ensures ∙ ap (λ (j : JournalState). slice_index_or j.entries c.args.place c.get.result.now) c.journal-2.ensures.journal)
    (c.if-is_line.ensures.same.0 refl)

pub returns-clause-broken : goal.returns-clause-broken
returns-clause-broken g c =
    let s = c.args.self.now.state in
    subst (IsRefusedAs (task_run s.task) c.args.entries.now) (sym c.not_this_run.ensures.place)
    (breaks_own s c.args.entries.now c.args.place c.entry_at.result.now c.get.result.now c.requires.ahead c.requires.within
    (omega (arith, c.if-place-len.false, c.len.ensures, ap (λ (j : JournalState). length j.entries) c.journal.ensures.journal))
    c.entry_at.ensures.entry
    (c.get.ensures ∙ ap (λ (j : JournalState). slice_index_or j.entries c.args.place c.get.result.now) c.journal-2.ensures.journal)
    c.task.ensures.order c.requires.joined (λ same. false≢true (c.if-is_line.ensures.same.1 same)))
