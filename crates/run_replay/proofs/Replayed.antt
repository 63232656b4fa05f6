-- The beginning and the end of a replay.
use Rattle.std.proofs.Common.{◌≡◌, ◌<◌, ◌≤◌, ◌+◌, ◌++◌, ◌∙◌, ℕ, false, List, refl, sym, ap, subst, length, take, map, arith}
use Rattle.std.proofs.lemmas.List.{take_all}
use Rattle.flat_model.specs.declared.limits.TheConstants.{NO_PARTY}
use Rattle.flat_model.specs.declared.plugins.SetSpec.{SetSpec}
use Rattle.flat_model.specs.declared.journals.Entry.{Entry}
use Rattle.flat_model.specs.declared.journals.Item.{Item}
use Rattle.flat_model.specs.Log.{log, journaled, IsJoined}
use Rattle.plug_registry.specs.Installs.{start_order}
use Rattle.baton_gate.specs.Logs.{GoesOn}
use Rattle.run_rules.specs.Legal.{Legal, Whole, IsBrokenAt}
use Rattle.run_rules.proofs.Journals.{logs_are_of_their_journals}
use Rattle.run_order.specs.InOrder.{Task, InOrder, task_run}
use Rattle.host_state.specs.Scripting.{IsLineOf}
use Rattle.host_state.specs.State.{StateValue, stored_of}
use Rattle.replay_order.specs.Openings.{IsOther}
use Rattle.replay_order.proofs.Before.{legal_before}
use Rattle.replay_order.proofs.Breaking.{other_openings_break}
use Rattle.replay_order.proofs.Entries.{whole_journals_have_whole_logs}
use Rattle.run_replay.specs.Ahead.{IsAhead}
use Rattle.run_replay.specs.Replays.{IsReplayOf}
use Rattle.run_replay.proofs.Ahead.{is_ahead, level, line_there, journals_stand, goes_journaled}
use Rattle.run_replay.proofs.Wanted.{other_line}

-- entries that begin otherwise
pub broken_start : (t : Task) (es : List Entry) (k : ℕ) (s : StateValue) → IsJoined es → s.task ≡ t
    → GoesOn (IsLineOf NO_PARTY) (log (map start_order t.plan.installs)) s.past → Legal (task_run s.task) s.past
    → IsOther es t.plan.installs k → IsBrokenAt (task_run t) es k
broken_start t es k s joined task lines legal other =
    let all : Legal (task_run t) (lines.more ++ log (map start_order t.plan.installs)) =
    subst (Legal (task_run t)) lines.begins (subst (λ (u : Task). Legal (task_run u) s.past) task legal) in
    other_openings_break (task_run t) es k joined (legal_before (task_run t) lines.more (log (map start_order t.plan.installs)) all) other

-- entries that begin with all installs
pub ahead_first : (s : StateValue) (es : List Entry) (installs : List SetSpec) (k : ℕ) → InOrder s.task (stored_of s) → IsJoined es
    → IsJoined s.journal.entries → k ≤ length installs → length installs ≤ k
    → GoesOn (IsLineOf NO_PARTY) (log (map start_order installs)) s.past → take k es ≡ map start_order (take k installs)
    → IsAhead k es s.journal.entries
ahead_first s es installs k order joined own low high lines begins =
    let starts = map start_order installs in
    let told : journaled (log starts) ≡ log (take k es) =
    journals_stand starts ∙ ap (λ (specs : List SetSpec). log (map start_order specs)) (sym (take_all k installs high))
    ∙ ap log (sym begins) in
    is_ahead k NO_PARTY es s.journal.entries joined own
    (subst (λ (xs : List Item). GoesOn (IsLineOf NO_PARTY) xs (log s.journal.entries)) told
    (subst (GoesOn (IsLineOf NO_PARTY) (journaled (log starts))) (sym order.journal)
    (goes_journaled NO_PARTY (log starts) s.past lines)))

-- Once all entries were followed.
module _ (s : StateValue) (es : List Entry) (order : InOrder s.task (stored_of s)) (ahead : IsAhead (length es) es s.journal.entries) where
  -- the state has a line more
  pub lacks_line : IsJoined es → length es < length s.journal.entries → IsBrokenAt (task_run s.task) es (length es)
  lacks_line joined more =
      let t = s.task in
      let legal : Legal (task_run t) (log s.journal.entries) =
      subst (Legal (task_run t)) (sym order.journal) ((logs_are_of_their_journals t.machine t.mode t.plan s.past).legal order.legal) in
      other_line t es s.journal.entries (length es) (line_there (length es) es s.journal.entries ahead (omega arith) more) joined (omega arith)
      legal (λ e below at. absurd (omega (arith, below)))

  same_entries : length s.journal.entries ≤ length es → s.journal.entries ≡ es
  same_entries few = level (length es) es s.journal.entries ahead (omega arith) few ∙ take_all (length es) es (omega arith)

  -- or none, and is whole
  pub is_replay : s.short ≡ false → length s.journal.entries ≤ length es → Whole (task_run s.task) s.past → IsReplayOf s.task es s
  is_replay recording few whole = record { task = refl; entries = same_entries few; whole = whole; open_now = recording }

  -- or it isn't
  pub not_whole : length s.journal.entries ≤ length es → (Whole (task_run s.task) s.past → ⊥)
      → IsBrokenAt (task_run s.task) es (length es)
  not_whole few not_yet =
      let t = s.task in
      let run = task_run t in
      let told : journaled s.past ≡ log es = sym order.journal ∙ ap log (same_entries few) in
      let legal : Legal run (log es) =
      subst (Legal run) told ((logs_are_of_their_journals t.machine t.mode t.plan s.past).legal order.legal) in
      record {
        legal = subst (λ (xs : List Entry). Legal run (log xs)) (sym (take_all (length es) es (omega arith))) legal;
        broken = λ below more. absurd (omega (arith, below));
        within = omega arith;
        unfinished = λ is whole.
            not_yet (whole_journals_have_whole_logs t.machine t.mode t.plan s.past order.legal (subst (Whole run) (sym told) whole));
      }
