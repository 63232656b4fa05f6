-- A log that every hart has left is whole, where no closing is due and none is out.
use Rattle.std.proofs.Common.{◌≡◌, ◌+◌, ◌-◌, ◌<◌, ◌≤◌, ◌&&◌, ◌∙◌, ℕ, Bool, true, false, not, List, length}
use Rattle.std.proofs.Common.{refl, sym, ap, subst, arith, inl, inr, nat_lt, nat_le}
use Rattle.std.specs.Prelude.{is_some, slice_index_or}
use Rattle.std.specs.List.{list_any}
use Rattle.std.proofs.lemmas.Bool.{cases_Bool, false≢true, lt-ltb, le-leb}
use Rattle.flat_model.specs.declared.journals.Item.{Item}
use Rattle.flat_model.specs.Registry.{Plugins, no_plugin, plugin_of, is_installed, is_closing, has_left}
use Rattle.run_rules.specs.Guest.{Run, plugins}
use Rattle.run_rules.specs.Legal.{Whole}
use Rattle.run_rules.specs.Places.{taker}
use Rattle.run_order.specs.InOrder.{InOrder, task_run}
use Rattle.run_order.specs.Sets.{is_closing_out}
use Rattle.kept_order.specs.Closing.{is_due}
use Rattle.kept_order.proofs.Ranges.{all_of}
use Rattle.host_state.specs.State.{StateValue, stored_of}
use Rattle.host_state.proofs.Finishing.{none_closes}
use Rattle.host_core.specs.Settling.{MaySettle}
use Rattle.host_core.proofs.Owed.{nobody_owes}

both : (a b : Bool) → a ≡ true → b ≡ true → (a && b) ≡ true
both true b one two = two
both false b one two = absurd (false≢true one)

-- is it due, or is it out
due_or_out : (installed closing owing out : Bool) → installed ≡ true → closing ≡ true → owing ≡ false
    → ((installed && (closing && not owing)) && not out) ≡ false → (closing && out) ≡ true
due_or_out true true false true one two three none = refl
due_or_out true true false false one two three none = sym none
due_or_out true true true out one two three none = absurd (false≢true (sym three))
due_or_out true false owing out one two three none = absurd (false≢true two)
due_or_out false closing owing out one two three none = absurd (false≢true one)

module _ (run : Run) (past : List Item) (left : (h : ℕ) → h < run.harts → has_left (plugins run past) h ≡ true)
    (none : (p : ℕ) → 1 ≤ p → p ≤ length (plugins run past).plugins → is_due run p past ≡ false)
    (inside : (p : ℕ) → 1 ≤ p → p ≤ length (plugins run past).plugins → is_closing_out run p past ≡ false) where
  installed : (p : ℕ) → 1 ≤ p → p ≤ length (plugins run past).plugins → is_installed (plugins run past) p ≡ true
  installed p one most =
      both (nat_lt 0 p) (nat_le p (length (plugins run past).plugins)) (lt-ltb 0 p (omega (arith, one)))
      (le-leb p (length (plugins run past).plugins) most)

  closed_at : (p : ℕ) → 1 ≤ p → p ≤ length (plugins run past).plugins → is_closing (plugin_of (plugins run past) p).state ≡ false
  closed_at p one most =
      let q = plugin_of (plugins run past) p in
      elim (cases_Bool (is_closing q.state)) [
        | inr done ↦ done
        | inl closing ↦
            absurd (false≢true (sym (inside p one most)
            ∙ due_or_out (is_installed (plugins run past) p) (is_closing q.state) (list_any (λ owed. owed) q.owing)
            (is_some (taker p past)) (installed p one most) closing (nobody_owes run past p left) (none p one most)))
      ]

  pub all_closed : list_any (λ p. is_closing p.state) (plugins run past).plugins ≡ false
  all_closed =
      let ps = (plugins run past).plugins in
      none_closes ps (λ k low.
      let back : k + 1 - 1 ≡ k = omega arith in
      subst (λ (i : ℕ). is_closing (slice_index_or ps i no_plugin).state ≡ false) back
      (closed_at (k + 1) (omega arith) (omega (arith, low))))

pub is_whole : (s : StateValue) (by : ℕ) → InOrder s.task (stored_of s) → MaySettle by s
    → ((h : ℕ) → h < s.task.machine.harts → has_left (plugins (task_run s.task) s.past) h ≡ true)
    → ((p : ℕ) → 1 ≤ p → p ≤ length s.registry.table.plugins → is_due (task_run s.task) p s.past ≡ false)
    → ((p : ℕ) → 1 ≤ p → p ≤ length s.registry.table.plugins → is_closing_out (task_run s.task) p s.past ≡ false)
    → Whole (task_run s.task) s.past
is_whole s by order may left none inside =
    let run = task_run s.task in
    let many : length s.registry.table.plugins ≡ length (plugins run s.past).plugins =
    ap (λ (r : Plugins). length r.plugins) order.plugins in
    record {
      legal = order.legal;
      nothing_missing = may.caught_up;
      all_left = all_of (λ h. has_left (plugins run s.past) h) 0 run.harts (λ h least low. left h (omega (arith, low)));
      all_closed = all_closed run s.past left (λ p one most. none p one (omega (arith, most, many)))
          (λ p one most. inside p one (omega (arith, most, many)));
    }
