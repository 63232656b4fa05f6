use Rattle.std.proofs.Common.{◌≡◌, ◌<◌, ◌≤◌, ◌∙◌, sym, ap, refl, subst, arith, length}
use Rattle.std.proofs.lemmas.Bool.{false≢true}
use Rattle.run_journal.specs.Journal.{JournalState}
use Rattle.run_rules.specs.Legal.{IsBrokenAt}
use Rattle.run_order.specs.InOrder.{task_run}
use Rattle.run_replay.specs.Replays.{IsRefusedAs}
use Rattle.run_replay.proofs.Replayed.{lacks_line, is_replay, not_whole}
use Rattle.run_replay.proofs.replaying.ended.Goals as goal

pub returns-then-own-all-clause-refused : goal.returns-then-own-all-clause-refused
returns-then-own-all-clause-refused g c =
    let run = task_run c.args.state.task in
    let es = c.args.journal.now.entries in
    let more : length es < length c.args.state.journal.entries =
    omega (
      arith,
      c.if-own-all.true,
      c.len-own.ensures,
      c.len-all.ensures,
      ap (λ (j : JournalState). length j.entries) c.journal.ensures.journal,
    ) in
    subst (IsRefusedAs run es) (sym c.not_this_run.ensures.place) (subst (IsBrokenAt run es) (sym c.len-all.ensures)
    (lacks_line c.args.state es c.task.ensures.order c.requires.ahead c.entries.ensures.joined more))

pub returns-then-whole-clause-replayed : goal.returns-then-whole-clause-replayed
returns-then-whole-clause-replayed g c =
    let es = c.args.journal.now.entries in
    is_replay c.args.state es c.task.ensures.order c.requires.ahead c.requires.open
    (omega (
      arith,
      c.if-own-all.false,
      c.len-own.ensures,
      c.len-all.ensures,
      ap (λ (j : JournalState). length j.entries) c.journal.ensures.journal,
    ))
    ((c.if-whole.ensures.whole c.requires.open).0 refl)

pub returns-clause-refused : goal.returns-clause-refused
returns-clause-refused g c =
    let run = task_run c.args.state.task in
    let es = c.args.journal.now.entries in
    let few : length c.args.state.journal.entries ≤ length es =
    omega (
      arith,
      c.if-own-all.false,
      c.len-own.ensures,
      c.len-all.ensures,
      ap (λ (j : JournalState). length j.entries) c.journal.ensures.journal,
    ) in
    subst (IsRefusedAs run es) (sym c.not_this_run-2.ensures.place) (subst (IsBrokenAt run es) (sym c.len-all.ensures)
    (not_whole c.args.state es c.task.ensures.order c.requires.ahead few
    (λ whole. false≢true ((c.if-whole.ensures.whole c.requires.open).1 whole))))
