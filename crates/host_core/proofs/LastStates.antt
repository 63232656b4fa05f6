-- The last take of a gate, and the state that is settled then.
use Rattle.std.proofs.Common.{◌≡◌, ◌+◌, ◌<◌, ◌∷◌, [], ◌∙◌, ℕ, true, false, List, Some, Result, Ok, Err}
use Rattle.std.proofs.Common.{refl, sym, ap, subst, arith, map, get_or}
use Rattle.std.specs.Prelude.{All, IfOk}
use Rattle.std.specs.List.{range_with_len}
use Rattle.std.proofs.lemmas.List.Elements.{All-map, All-append}
use Rattle.std.proofs.lemmas.Option.{same_Some}
use Rattle.flat_model.specs.declared.journals.Item.{Item}
use Rattle.flat_model.specs.Log.{party}
use Rattle.flat_model.specs.Registry.{has_left}
use Rattle.run_rules.specs.Guest.{plugins}
use Rattle.run_rules.specs.Legal.{Legal, Whole}
use Rattle.run_order.specs.InOrder.{Task, task_run}
use Rattle.baton_gate.specs.declared.passes.Pass.{Pass}
use Rattle.baton_gate.specs.declared.gate.Gate.{Gate}
use Rattle.baton_gate.specs.declared.views.View.{View}
use Rattle.baton_gate.specs.Logs.{GoesOn, Ahead, Within}
use Rattle.baton_gate.specs.Passes.{IsNewPass, carries, ended, known, opening, parties, seen}
use Rattle.host_state.specs.State.{StateValue}
use Rattle.host_core.specs.Runs.{IsPlanned, IsRunOf, IsUncontrolled}
use Rattle.host_core.specs.Settling.{IsSettledBy}
use Rattle.host_core.specs.Stages.{IsFinished, IsOver, MayFinish}
use Rattle.host_core.proofs.LastTakes.{at_each, each_low, gone_still, goes_further, harts_alone, never_left}
use Rattle.host_core.proofs.LastTakes.{settling_by, settling_uncontrolled}
use Rattle.host_core.proofs.Planned.{all_uncontrolled}

module _ {S : Type 0} (gate : Gate S Item Task) (own joined : Pass S Item Task) (passes : List (Pass S Item Task))
    (may : MayFinish gate own passes) (same : known joined ≡ record (known own) { ended = ended joined })
    (number : joined.party ≡ own.party) where
  -- the number of the party is that of the harts
  far : joined.party ≡ may.task.machine.harts
  far = number ∙ may.fresh.number_is

  module _ (s : StateValue) (frame : carries joined ≡ Some s.task) where
    same_task : may.task ≡ s.task
    same_task =
        same_Some may.task s.task (sym may.fresh.frame_is ∙ sym (ap (λ (v : View Item Task). v.frame) same) ∙ frame)

    many : may.task.machine.harts ≡ s.task.machine.harts
    many = ap (λ (t : Task). t.machine.harts) same_task

    low : All (λ (p : Pass S Item Task). p.party < may.task.machine.harts) passes
    low = each_low (λ (p : Pass S Item Task). p.party) passes may.task.machine.harts may.harts

    pub all_left : All (λ (p : Pass S Item Task). Ahead party s.past p.party (seen p)) passes
        → (h : ℕ) → h < s.task.machine.harts → has_left (plugins (task_run s.task) s.past) h ≡ true
    all_left ahead h within =
        at_each (λ (p : Pass S Item Task). p.party) (λ k. has_left (plugins (task_run s.task) s.past) k ≡ true) passes
        may.task.machine.harts
        (λ k d below. gone_still (task_run s.task) (get_or passes k d).party (seen (get_or passes k d)) s.past
        (omega (arith, low k d below, many)) (may.over k d below).left (ahead k d below))
        may.harts h (omega (arith, within, many))

    pub never_leaves : has_left (plugins (task_run s.task) s.past) joined.party ≡ false
    never_leaves = never_left (task_run s.task) joined.party s.past (omega (arith, far, many))

    -- what the take tells of controllers
    pub none_controls : Legal (task_run s.task) s.past → Ahead party s.past joined.party (seen joined)
        → Within party s.past (parties joined) (opening joined) → GoesOn IsUncontrolled (seen own) s.past
    none_controls legal ahead within =
        let began : opening joined ≡ seen own = ap (λ (v : View Item Task). v.opening) same ∙ may.fresh.opening_is in
        let saw : seen joined ≡ seen own = ap (λ (v : View Item Task). v.seen) same in
        let count : parties joined ≡ s.task.machine.harts + 1 =
        ap (λ (v : View Item Task). v.parties) same ∙ may.fresh.count_is ∙ ap (λ (n : ℕ). n + 1) many in
        harts_alone (task_run s.task) (seen own) s.past legal
        (subst (λ (y : ℕ × List Item). Within party s.past y.0 y.1) (λ i. (count i, began i)) within)
        (subst (λ (y : ℕ × List Item). Ahead party s.past y.0 y.1) (λ i. ((far ∙ many) i, saw i)) ahead)

    pub is_finished : (now : StateValue) → All (λ (p : Pass S Item Task). Ahead party s.past p.party (seen p)) passes
        → GoesOn IsUncontrolled (seen own) s.past → now.task ≡ s.task → Whole (task_run now.task) now.past → now.short ≡ false
        → GoesOn (IsSettledBy joined.party) s.past now.past → IsFinished own passes now
    is_finished now ahead uncontrolled kept whole long more = record {
      task = may.fresh.frame_is ∙ ap (λ (t : Task). Some t) (same_task ∙ sym kept);
      whole = whole;
      open_now = long;
      ended = λ k d below.
          goes_further (seen (get_or passes k d)) s.past now.past (ahead k d below) more
          (settling_by joined.party (get_or passes k d).party (omega (arith, low k d below, far)));
      uncontrolled = goes_further (seen own) s.past now.past uncontrolled more (settling_uncontrolled joined.party);
    }

    -- the same of what settling gives, where there is memory for it
    pub is_finished_if : {E : Type 0} (result : Result StateValue E)
        → All (λ (p : Pass S Item Task). Ahead party s.past p.party (seen p)) passes → GoesOn IsUncontrolled (seen own) s.past
        → IfOk result (λ now. now.task ≡ s.task) → IfOk result (λ now. Whole (task_run now.task) now.past)
        → IfOk result (λ now. now.short ≡ false) → IfOk result (λ now. GoesOn (IsSettledBy joined.party) s.past now.past)
        → IfOk result (IsFinished own passes)
    is_finished_if (Ok now) ahead uncontrolled kept whole long more = is_finished now ahead uncontrolled kept whole long more
    is_finished_if (Err e) ahead uncontrolled kept whole long more = tt

-- A run from its start to its end.

pub is_run_of : {S : Type 0} (gate : Gate S Item Task) (own : Pass S Item Task) (passes : List (Pass S Item Task)) (t : Task)
    (count harts : ℕ)
    (s : StateValue) → IsNewPass gate own harts count (seen own) t → All IsPlanned (seen own) → IsFinished own passes s → IsRunOf t s
is_run_of gate own passes t count harts s fresh planned done =
    let same : s.task ≡ t = same_Some s.task t (sym done.task ∙ fresh.frame_is) in
    record {
      task = same;
      whole = subst (λ (x : Task). Whole (task_run x) s.past) same done.whole;
      open_now = done.open_now;
      uncontrolled = subst (λ (xs : List Item). All IsUncontrolled xs) (sym done.uncontrolled.begins)
          (All-append IsUncontrolled done.uncontrolled.more (seen own) done.uncontrolled.later (all_uncontrolled (seen own) planned));
    }

twice : {A B C : Type 0} (f : A → B) (g : B → C) (xs : List A) → map g (map f xs) ≡ map (λ x. g (f x)) xs
twice f g [] = refl
twice f g (x ∷ xs) = ap (λ ys. g (f x) ∷ ys) (twice f g xs)

pub may_finish : {S R : Type 0} (pass_of : R → Pass S Item Task) (gate : Gate S Item Task) (own : Pass S Item Task) (before after : List R)
    (t : Task) → IsNewPass gate own t.machine.harts (t.machine.harts + 1) (seen own) t
    → map (λ r. (pass_of r).party) before ≡ range_with_len 0 t.machine.harts → All (λ r. IsOver gate (pass_of r)) after
    → map (λ r. (pass_of r).party) after ≡ map (λ r. (pass_of r).party) before → MayFinish gate own (map pass_of after)
may_finish {S} pass_of gate own before after t fresh harts over same = record {
  task = t;
  fresh = fresh;
  over = All-map (IsOver gate) pass_of after over;
  harts = twice pass_of (λ (p : Pass S Item Task). p.party) after ∙ same ∙ harts;
}
