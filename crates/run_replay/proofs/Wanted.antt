-- What the plan wants keeps all else from standing there.
use Rattle.std.proofs.Common.{◌≡◌, ◌≢◌, ◌&&◌, ◌||◌, ◌+◌, ◌<◌, ◌≤◌, ◌++◌, ◌∷◌, [], ◌∙◌, ℕ, zero, suc, Bool, true, false, not, List}
use Rattle.std.proofs.Common.{Option, Some, None, refl, sym, ap, subst, arith, length, take, nat_lt}
use Rattle.std.specs.Prelude.{slice_index_or, is_some}
use Rattle.std.specs.List.{list_all}
use Rattle.std.proofs.lemmas.Bool.{false≢true}
use Rattle.std.proofs.lemmas.List.{take_all}
use Rattle.flat_model.specs.declared.journals.Entry.{Entry}
use Rattle.flat_model.specs.declared.journals.Entry.TheVariants as entries
use Rattle.flat_model.specs.declared.journals.Item.{Item}
use Rattle.flat_model.specs.declared.journals.Item.TheVariants.{Step, Ordered, GaveBack, Left, Told}
use Rattle.flat_model.specs.declared.journals.Order.{Order}
use Rattle.flat_model.specs.declared.journals.Origin.{Origin}
use Rattle.flat_model.specs.declared.journals.Origin.TheVariants.{Start, Script, Asked, Control}
use Rattle.flat_model.specs.Log.{log, log_from, steps, with_entry, journaled, IsJoined}
use Rattle.flat_model.specs.Registry.{owes, is_complete, has_left}
use Rattle.run_rules.specs.Guest.{Run, plugins}
use Rattle.run_rules.specs.Due.{turn_length, is_turning, wanted, in_time}
use Rattle.run_rules.specs.Legal.{Legal, Rule, Whole, IsBrokenAt, may_step, is_there, runs, owes_any, asks_nothing, is_finished}
use Rattle.run_rules.specs.Legal.{passes_nothing_by, goes_on_in_time, numbers}
use Rattle.run_rules.proofs.Journals.{logs_are_of_their_journals}
use Rattle.run_rules.proofs.Turns.{first_true, rest_true}
use Rattle.run_order.specs.InOrder.{Task, task_run}
use Rattle.replay_order.proofs.Entries.{takes_one_more, turns_begin_anew, broken_rules_break_journals, broken_steps_break_turns}
use Rattle.replay_order.proofs.Entries.{whole_journals_have_whole_logs}
use Rattle.run_replay.specs.Overdue.{IsOverdue}
use Rattle.run_replay.proofs.Ahead.{HasLine, journals_stand, legal_first, log_append}

module _ (run : Run) (now : List Item) (x : Item) (wants : wanted run now ≡ Some x) where
  passes : passes_nothing_by run now ≡ true → ⊥
  passes none = false≢true (sym (ap (λ (o : Option Item). not (is_some o)) wants) ∙ none)

  fourth : (a b c d e : Bool) → (a && (b && (c && (d && e)))) ≡ true → d ≡ true
  fourth a b c d e is = first_true d e (rest_true c (d && e) (rest_true b (c && (d && e)) (rest_true a (b && (c && (d && e))) is)))

  third : (a b c : Bool) → (a && (b && c)) ≡ true → c ≡ true
  third a b c is = rest_true b c (rest_true a (b && c) is)

  no_step : (h : ℕ) → turn_length h now ≡ 0 → may_step run h now ≡ true → ⊥
  no_step h anew may =
      let goes = fourth (is_there run h now) (runs run h now) (not (owes_any run h now)) (is_turning h now || passes_nothing_by run now)
      (list_all (goes_on_in_time run h now) (numbers (plugins run now))) may in
      passes (sym (ap (λ (n : ℕ). nat_lt 0 n || passes_nothing_by run now) anew) ∙ goes)

  -- only that order may
  only_that : (origin : Origin) (order : Order) → Rule run (Ordered origin order) now → x ≡ Ordered origin order
  only_that Start order rule = let is = sym wants ∙ rule.given in cc
  only_that (Script line party) order rule = let is = sym wants ∙ rule.given.0 in cc
  only_that (Asked h plugin) order rule = absurd (passes rule.given.0)
  only_that (Control party) order rule = absurd (passes rule.given.0)

  no_back : (h plugin : ℕ) → Rule run (GaveBack h plugin) now → ⊥
  no_back h plugin rule =
      passes (third (owes (plugins run now) h plugin) (asks_nothing run h now) (passes_nothing_by run now) rule)

  no_leave : (h : ℕ) → Rule run (Left h) now → ⊥
  no_leave h rule =
      let rest = asks_nothing run h now && passes_nothing_by run now in
      passes (rest_true (asks_nothing run h now) (passes_nothing_by run now)
      (rest_true (not (owes_any run h now)) rest (third (is_there run h now) (is_finished run h now) (not (owes_any run h now) && rest) rule)))

  no_done : (party plugin : ℕ) → Rule run (Told party plugin) now → ⊥
  no_done party plugin rule =
      passes (third (is_complete (plugins run now) plugin) (not (has_left (plugins run now) party)) (passes_nothing_by run now) rule)

none_falsified : (b : Bool) → (b ≡ true → ⊥) → b ≡ false
none_falsified true off = absurd (off refl)
none_falsified false off = refl

-- who may stand where the log `now` ends, in the words of its journal
module _ (t : Task) (now : List Item) (x : Item) (wants : wanted (task_run t) now ≡ Some x) where
  breaks : (y : Item) → (Rule (task_run t) y now → ⊥) → Legal (task_run t) (y ∷ journaled now) → ⊥
  breaks y off legal = broken_rules_break_journals t.machine t.mode t.plan y now (journaled now) refl off legal

  other_entry : (e : Entry) → ((h n : ℕ) → e ≡ entries.Turn h n → (turn_length h now ≡ 0) × (0 < n))
      → ((origin : Origin) (order : Order) → e ≡ entries.Order origin order → x ≡ Ordered origin order → Rule (task_run t) x now → ⊥)
      → Legal (task_run t) (with_entry e (journaled now)) → ⊥
  other_entry (entries.Turn h n) anew off legal =
      let fresh = anew h n refl in
      broken_steps_break_turns t.machine t.mode t.plan h 0 n now (journaled now) fresh.1 refl
      (none_falsified (may_step (task_run t) h now) (λ may. no_step (task_run t) now x wants h fresh.0 may)) legal
  other_entry (entries.Order origin order) anew off legal =
      breaks (Ordered origin order) (λ rule.
      let is = only_that (task_run t) now x wants origin order rule in
      off origin order refl is (subst (λ (y : Item). Rule (task_run t) y now) (sym is) rule)) legal
  other_entry (entries.Back h plugin) anew off legal = breaks (GaveBack h plugin) (no_back (task_run t) now x wants h plugin) legal
  other_entry (entries.Leave h) anew off legal = breaks (Left h) (no_leave (task_run t) now x wants h) legal
  other_entry (entries.Done party plugin) anew off legal =
      breaks (Told party plugin) (no_done (task_run t) now x wants party plugin) legal

  none_some : None ≡ Some x → ⊥
  none_some is = cc

  -- so the entries are broken where it is wanted, unless it is there and may stand
  pub broken_by_want : (es : List Entry) (k : ℕ) → IsJoined es → k ≤ length es → Legal (task_run t) now
      → journaled now ≡ log (take k es)
      → ((e : Entry) → k < length es → slice_index_or es k e ≡ e → (origin : Origin) (order : Order) → e ≡ entries.Order origin order
      → x ≡ Ordered origin order → Rule (task_run t) x now → ⊥) → IsBrokenAt (task_run t) es k
  broken_by_want es k joined low legal told off =
      let run = task_run t in
      let judged : Legal run (log (take k es)) =
      subst (Legal run) told ((logs_are_of_their_journals t.machine t.mode t.plan now).legal legal) in
      record {
        legal = judged;
        broken = λ below more.
            let e = slice_index_or es k (entries.Leave 0) in
            let at : slice_index_or es k e ≡ e = there es k (entries.Leave 0) below in
            other_entry e (λ h n turn. turns_begin_anew es e h n k now joined below at turn told) (off e below at)
            (subst (λ (xs : List Item). Legal run (with_entry e xs)) (sym told) (subst (Legal run) (takes_one_more es e k below at) more));
        within = low;
        unfinished = λ last whole.
            let all : journaled now ≡ log es = told ∙ ap log (take_all k es (omega (arith, last))) in
            none_some (sym (whole_journals_have_whole_logs t.machine t.mode t.plan now legal (subst (Whole run) (sym all) whole)).nothing_missing
            ∙ wants);
      }
    where
      there : (es : List Entry) (k : ℕ) (d : Entry) → k < length es → slice_index_or es k (slice_index_or es k d) ≡ slice_index_or es k d
      there [] k d low = absurd (omega (arith, low))
      there (e ∷ es) zero d low = refl
      there (e ∷ es) (suc k) d low = there es k d (omega (arith, low))

-- A line of the script that is wanted.

pub legal_own : (run : Run) (xs ys : List Entry) → Legal run (log (xs ++ ys)) → Legal run (log_from (log xs) ys)
legal_own run xs ys legal = subst (Legal run) (log_append [] xs ys) legal

rule_of : (run : Run) (y : Item) (past : List Item) → Legal run (y ∷ past) → Rule run y past
unfolding Legal
rule_of run y past legal = legal.1

-- where the state has a line, and the entries have another or none, they are broken
pub other_line : (t : Task) (es own : List Entry) (k : ℕ) (has : HasLine k es own) → IsJoined es → k ≤ length es
    → Legal (task_run t) (log own)
    → ((e : Entry) → k < length es → slice_index_or es k e ≡ e → e ≢ entries.Order (Script has.line has.who) has.order) → IsBrokenAt (task_run t) es k
other_line t es own k has joined low legal other =
    let run = task_run t in
    let now = log (take k es) in
    let x = Ordered (Script has.line has.who) has.order in
    let all : Legal run (log_from now (entries.Order (Script has.line has.who) has.order ∷ has.later)) =
    legal_own run (take k es) (entries.Order (Script has.line has.who) has.order ∷ has.later)
    (subst (λ (xs : List Entry). Legal run (log xs)) has.begins legal) in
    let stood : Legal run (x ∷ now) = legal_first run (x ∷ now) has.later all in
    let rule : Rule run x now = rule_of run x now stood in
    broken_by_want t now x rule.given.0 es k joined low (legal_first run now (entries.Order (Script has.line has.who) has.order ∷ has.later) all)
    (journals_stand (take k es))
    (λ e below at origin order is same rule. other e below at (is ∙ as_entry origin order (Script has.line has.who) has.order same))
  where
    as_entry : (a : Origin) (order : Order) (b : Origin) (given : Order) → Ordered b given ≡ Ordered a order
        → entries.Order a order ≡ entries.Order b given
    as_entry a order b given is = cc

-- and where a line can't stand in time any more, whatever comes breaks a rule
pub overdue_breaks : (t : Task) (now : List Item) (es : List Entry) (k : ℕ) → IsOverdue (task_run t) now → IsJoined es → k ≤ length es
    → Legal (task_run t) now → journaled now ≡ log (take k es) → IsBrokenAt (task_run t) es k
overdue_breaks t now es k overdue joined low legal told =
    broken_by_want t now (Ordered (Script overdue.line overdue.party) overdue.order) overdue.wanted es k joined low legal told
    (λ e below at origin order is same rule. false≢true (sym overdue.late ∙ rule.given.1))
