use Rattle.std.proofs.Common.{◌≡◌, ◌≤◌, ◌<◌, ◌∙◌, List, ℕ, None, ap, sym, subst, length}
use Rattle.std.specs.Prelude.{IfOk, IfErr}
use Rattle.flat_model.specs.declared.journals.Entry.{Entry}
use Rattle.flat_model.specs.Log.{IsJoined}
use Rattle.run_journal.specs.Journal.{JournalState}
use Rattle.run_rules.specs.Due.{wanted}
use Rattle.run_order.specs.InOrder.{Task, task_run}
use Rattle.host_state.specs.State.{StateValue}
use Rattle.run_replay.specs.Ahead.{IsAhead}
use Rattle.run_replay.specs.Replays.{IsRefusedAs, IsReplayOf}
use Rattle.run_replay.proofs.Replayed.{broken_start, ahead_first}
use Rattle.run_replay.proofs.replaying.replay.Goals as goal

pub returns-then-starts-installs-clause-refused : goal.returns-then-starts-installs-clause-refused
returns-then-starts-installs-clause-refused g c =
    let es = c.args.journal.now.entries in
    let t : Task = record {
      machine = record { image = c.args.image.value; harts = c.args.harts; limit = c.args.limit };
      mode = c.args.mode;
      plan = c.args.plan;
    } in
    let k = c.starts_of-starts.result in
    let low : k < length c.args.plan.installs = subst (λ (n : ℕ). k < n) c.installs_of-installs.ensures.count c.if-starts-installs.true in
    let at_start = c.in_ok-replay.ensures in
    subst (IsRefusedAs (task_run t) es) (sym c.not_this_run.ensures.place)
    (broken_start t es k c.in_ok-replay.replay.state c.starts_of-starts.ensures.joined at_start.task at_start.past at_start.legal
    (c.starts_of-starts.ensures.other low))

pub follow-requires-clause-joined : goal.follow-requires-clause-joined
follow-requires-clause-joined g c = subst IsJoined (sym c.entries-2.ensures.entries) c.entries-2.ensures.joined

pub follow-requires-clause-within : goal.follow-requires-clause-within
follow-requires-clause-within g c =
    subst (λ (es : List Entry). c.starts_of-starts.result ≤ length es) (sym c.entries-2.ensures.entries) c.starts_of-starts.ensures.there

pub follow-requires-clause-ahead : goal.follow-requires-clause-ahead
follow-requires-clause-ahead g c =
    let s = c.in_ok-replay.replay.state in
    let k = c.starts_of-starts.result in
    subst (λ (es : List Entry). IsAhead k es s.journal.entries) (sym c.entries-2.ensures.entries)
    (ahead_first s c.args.journal.now.entries c.args.plan.installs k c.task.ensures.order c.starts_of-starts.ensures.joined
    (subst (λ (j : JournalState). IsJoined j.entries) c.journal.ensures.journal c.entries.ensures.joined) c.starts_of-starts.ensures.within
    (subst (λ (n : ℕ). n ≤ k) c.installs_of-installs.ensures.count c.if-starts-installs.false) c.in_ok-replay.ensures.past
    c.starts_of-starts.ensures.begins)

pub ended-requires-clause-open : goal.ended-requires-clause-open
ended-requires-clause-open g c =
    ap (λ (s : StateValue). s.short) c.into_state.ensures.state ∙ c.in-Ok.ensures.following.open_now

pub ended-requires-clause-caught_up : goal.ended-requires-clause-caught_up
ended-requires-clause-caught_up g c =
    subst (λ (s : StateValue). wanted (task_run s.task) s.past ≡ None) (sym c.into_state.ensures.state)
    c.in-Ok.ensures.following.caught_up

pub ended-requires-clause-ahead : goal.ended-requires-clause-ahead
ended-requires-clause-ahead g c =
    subst (λ (s : StateValue). IsAhead (length c.args.journal.now.entries) c.args.journal.now.entries s.journal.entries)
    (sym c.into_state.ensures.state)
    (subst (λ (es : List Entry). IsAhead (length es) es c.follow.new.self.state.journal.entries) c.entries-2.ensures.entries
    c.in-Ok.ensures.ahead)

pub returns-in-Ok-clause-replayed : goal.returns-in-Ok-clause-replayed
returns-in-Ok-clause-replayed g c =
    subst (λ (u : Task). IfOk c.ended.result (IsReplayOf u c.args.journal.now.entries))
    (ap (λ (s : StateValue). s.task) c.into_state.ensures.state ∙ c.in-Ok.ensures.task ∙ c.in_ok-replay.ensures.task)
    c.ended.ensures.replayed

pub returns-in-Ok-clause-refused : goal.returns-in-Ok-clause-refused
returns-in-Ok-clause-refused g c =
    subst (λ (u : Task). IfErr c.ended.result (IsRefusedAs (task_run u) c.args.journal.now.entries))
    (ap (λ (s : StateValue). s.task) c.into_state.ensures.state ∙ c.in-Ok.ensures.task ∙ c.in_ok-replay.ensures.task)
    c.ended.ensures.refused

pub returns-in-Err-clause-refused : goal.returns-in-Err-clause-refused
returns-in-Err-clause-refused g c =
    subst (λ (u : Task). IsRefusedAs (task_run u) c.args.journal.now.entries c.in-Err.refused) c.in_ok-replay.ensures.task
    (subst (λ (es : List Entry). IsRefusedAs (task_run c.in_ok-replay.replay.state.task) es c.in-Err.refused) c.entries-2.ensures.entries
    c.in-Err.ensures.broken)
