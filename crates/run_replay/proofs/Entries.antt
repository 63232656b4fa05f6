-- Entries that are followed one after the other.
use Rattle.std.proofs.Common.{◌≡◌, ◌+◌, ◌<◌, ◌≤◌, ◌∷◌, [], ◌∙◌, ℕ, zero, suc, List, sym, ap, subst, arith, length, take}
use Rattle.std.specs.Prelude.{slice_index_or}
use Rattle.flat_model.specs.declared.journals.Entry.{Entry}
use Rattle.flat_model.specs.declared.journals.Entry.TheVariants.{Order}
use Rattle.flat_model.specs.declared.journals.Item.{Item}
use Rattle.flat_model.specs.declared.journals.Origin.TheVariants.{Script}
use Rattle.flat_model.specs.Log.{log, journaled, with_entry, IsJoined}
use Rattle.baton_gate.specs.Logs.{GoesOn}
use Rattle.run_rules.specs.Legal.{Legal, IsBrokenAt}
use Rattle.run_rules.proofs.Journals.{logs_are_of_their_journals}
use Rattle.run_order.specs.InOrder.{Task, InOrder, task_run}
use Rattle.host_state.specs.Scripting.{IsLineOf}
use Rattle.host_state.specs.State.{StateValue, stored_of}
use Rattle.replay_order.proofs.Entries.{takes_one_more}
use Rattle.run_replay.specs.Ahead.{IsAhead, IsLineEntry}
use Rattle.run_replay.specs.Following.{IsNext, IsLast, IsBreaking}
use Rattle.run_replay.proofs.Ahead.{HasLine, is_ahead, level, line_there, line_at, follows_line}
use Rattle.run_replay.proofs.Wanted.{other_line, overdue_breaks}

-- the state has followed the first k entries, and no more
pub told_by : (s : StateValue) (es : List Entry) (k : ℕ) → InOrder s.task (stored_of s) → IsAhead k es s.journal.entries → k ≤ length es
    → length s.journal.entries ≤ k → journaled s.past ≡ log (take k es)
told_by s es k order ahead low few = sym order.journal ∙ ap log (level k es s.journal.entries ahead low few)

-- and one more
pub ahead_more : (es : List Entry) (e : Entry) (k : ℕ) (old new : StateValue) → IsJoined es → IsJoined new.journal.entries
    → InOrder new.task (stored_of new) → k < length es → slice_index_or es k e ≡ e → journaled old.past ≡ log (take k es)
    → IsNext e old new → IsAhead (k + 1) es new.journal.entries
ahead_more es e k old new joined own order below at told next =
    let one : with_entry e (journaled old.past) ≡ log (take (k + 1) es) =
    ap (with_entry e) told ∙ sym (takes_one_more es e k below at) in
    is_ahead (k + 1) next.party es new.journal.entries joined own
    (subst (λ (xs : List Item). GoesOn (IsLineOf next.party) xs (log new.journal.entries)) one
    (subst (GoesOn (IsLineOf next.party) (with_entry e (journaled old.past))) (sym order.journal) next.items))

-- what they tell is legal
legal_so_far : (t : Task) (s : StateValue) (xs : List Item) → s.task ≡ t → InOrder s.task (stored_of s)
    → journaled s.past ≡ xs → Legal (task_run t) xs
legal_so_far t s xs task order told =
    subst (Legal (task_run t)) told
    (subst (λ (x : Task). Legal (task_run x) (journaled s.past)) task
    ((logs_are_of_their_journals s.task.machine s.task.mode s.task.plan s.past).legal order.legal))

-- the first that breaks a rule
pub broken_at : (t : Task) (s : StateValue) (es : List Entry) (e : Entry) (k : ℕ) → s.task ≡ t → InOrder s.task (stored_of s)
    → k < length es → slice_index_or es k e ≡ e → journaled s.past ≡ log (take k es) → IsBreaking e s → IsBrokenAt (task_run t) es k
broken_at t s es e k task order below at told breaks = record {
  legal = legal_so_far t s (log (take k es)) task order told;
  broken = λ low legal. breaks
      (subst (λ (xs : List Item). Legal (task_run s.task) (with_entry e xs)) (sym told)
      (subst (λ (x : Task). Legal (task_run x) (with_entry e (log (take k es)))) (sym task)
      (subst (Legal (task_run t)) (takes_one_more es e k below at) legal)));
  within = omega (arith, below);
  unfinished = λ whole. absurd (omega (arith, whole, below));
}

-- or the one behind a Turn that went on for too long
pub broken_behind : (old new : StateValue) (es : List Entry) (e : Entry) (k : ℕ) → IsJoined es → InOrder new.task (stored_of new)
    → k < length es → slice_index_or es k e ≡ e → journaled old.past ≡ log (take k es) → IsLast e old new
    → IsBrokenAt (task_run old.task) es (k + 1)
broken_behind old new es e k joined order below at told last =
    subst (λ (t : Task). IsBrokenAt (task_run t) es (k + 1)) last.task
    (overdue_breaks new.task new.past es (k + 1) last.overdue joined (omega (arith, below)) order.legal
    (last.items ∙ ap (with_entry e) told ∙ sym (takes_one_more es e k below at)))

-- Where the state has a line at the place.
module _ (s : StateValue) (es : List Entry) (k : ℕ) (e line : Entry) (ahead : IsAhead k es s.journal.entries) (below : k < length es)
    (more : k < length s.journal.entries) (at : slice_index_or es k e ≡ e) (own : line ≡ slice_index_or s.journal.entries k line) where
  has : HasLine k es s.journal.entries
  has = line_there k es s.journal.entries ahead (omega (arith, below)) more

  line_here : line ≡ Order (Script has.line has.who) has.order
  line_here = own ∙ line_at k es s.journal.entries line has (omega (arith, below))

  pub follows_own : e ≡ line → IsAhead (k + 1) es s.journal.entries
  follows_own same = follows_line k es s.journal.entries e has below at (same ∙ line_here)

  pub breaks_own : InOrder s.task (stored_of s) → IsJoined es → (e ≡ line → ⊥) → IsBrokenAt (task_run s.task) es k
  breaks_own order joined other =
      let t = s.task in
      let legal : Legal (task_run t) (log s.journal.entries) =
      subst (Legal (task_run t)) (sym order.journal) ((logs_are_of_their_journals t.machine t.mode t.plan s.past).legal order.legal) in
      other_line t es s.journal.entries k has joined (omega (arith, below)) legal
      (λ x low there is. other (same_place es k e x at there low ∙ is ∙ sym line_here))
    where
      same_place : (es : List Entry) (k : ℕ) (a b : Entry) → slice_index_or es k a ≡ a → slice_index_or es k b ≡ b → k < length es → a ≡ b
      same_place [] k a b one two low = absurd (omega (arith, low))
      same_place (x ∷ es) zero a b one two low = sym one ∙ two
      same_place (x ∷ es) (suc k) a b one two low = same_place es k a b one two (omega (arith, low))

-- it is one
pub line_is : (s : StateValue) (es : List Entry) (k : ℕ) (line : Entry) → IsAhead k es s.journal.entries → k ≤ length es
    → k < length s.journal.entries → line ≡ slice_index_or s.journal.entries k line → IsLineEntry line
line_is s es k line ahead low more own =
    let has = line_there k es s.journal.entries ahead low more in
    subst IsLineEntry (sym (own ∙ line_at k es s.journal.entries line has low)) tt
