use Rattle.std.proofs.Common.{◌≡◌, refl, sym, subst}
use Rattle.flat_model.specs.Log.{IsJoined}
use Rattle.run_journal.specs.Journal.{JournalState}
use Rattle.run_order.specs.InOrder.{task_run}
use Rattle.replay_order.proofs.Entries.{turns_begin_anew}
use Rattle.run_replay.specs.declared.replays.Followed.{Followed}
use Rattle.run_replay.specs.Following.{IsFollowed}
use Rattle.run_replay.specs.Replays.{IsRefusedAs}
use Rattle.run_replay.proofs.Entries.{ahead_more, broken_at, broken_behind}
use Rattle.run_replay.proofs.replays.Replay.follow_next.Goals as goal

pub entry-requires-clause-anew : goal.entry-requires-clause-anew
entry-requires-clause-anew g c = λ h n turn.
    turns_begin_anew c.args.entries.now c.entry_at.result.now h n c.args.place c.args.self.now.state.past c.requires.joined c.requires.within
    c.entry_at.ensures.entry turn c.requires.told

pub returns-in-Went-clause-ahead : goal.returns-in-Went-clause-ahead
returns-in-Went-clause-ahead g c =
    let old = c.args.self.now.state in
    let new = c.entry.new.self.state in
    let did = subst (λ (f : Followed). IsFollowed f c.entry_at.result.now old new c.entry.new.self.berths.items c.entry.new.self.blocks)
    c.in-Went.is c.in_ok-followed.ensures.followed in
    ahead_more c.args.entries.now c.entry_at.result.now c.args.place old new c.requires.joined
    (subst (λ (j : JournalState). IsJoined j.entries) c.journal.ensures.journal c.entries.ensures.joined) c.task-2.ensures.order
    c.requires.within c.entry_at.ensures.entry c.requires.told did.0

pub returns-in-Overdue-clause-broken : goal.returns-in-Overdue-clause-broken
returns-in-Overdue-clause-broken g c =
    let old = c.args.self.now.state in
    let new = c.entry.new.self.state in
    let last = subst (λ (f : Followed). IsFollowed f c.entry_at.result.now old new c.entry.new.self.berths.items c.entry.new.self.blocks)
    c.in-Overdue.is c.in_ok-followed.ensures.followed in
    subst (IsRefusedAs (task_run old.task) c.args.entries.now) (sym c.not_this_run.ensures.place)
    (broken_behind old new c.args.entries.now c.entry_at.result.now c.args.place c.requires.joined c.task-2.ensures.order
    c.requires.within c.entry_at.ensures.entry c.requires.told last)

pub returns-in-Breaks-clause-broken : goal.returns-in-Breaks-clause-broken
returns-in-Breaks-clause-broken g c =
    let old = c.args.self.now.state in
    let new = c.entry.new.self.state in
    let breaks = subst (λ (f : Followed). IsFollowed f c.entry_at.result.now old new c.entry.new.self.berths.items c.entry.new.self.blocks)
    c.in-Breaks.is c.in_ok-followed.ensures.followed in
    subst (IsRefusedAs (task_run old.task) c.args.entries.now) (sym c.not_this_run-in-Breaks.ensures.place)
    (broken_at old.task old c.args.entries.now c.entry_at.result.now c.args.place refl c.task.ensures.order c.requires.within
    c.entry_at.ensures.entry c.requires.told breaks)
