-- A controller's part of a hold, in the words of the states before and after it.
use Rattle.std.proofs.Common.{◌≡◌, ◌≤◌, ◌∷◌, [], ◌∙◌, ℕ, Bool, true, false, List, Option, Some, None}
use Rattle.std.proofs.Common.{Result, Ok, Err, refl, sym, ap, subst, arith, inl, inr, length, nat_lt, zero, suc}
use Rattle.std.specs.Prelude.{MatchOption, OnOk, IfErr, slice_index_or, ◌⊎◌}
use Rattle.std.specs.List.Sorted.{IsNonDecreasingBy}
use Rattle.std.proofs.lemmas.Bool.{false≢true}
use Rattle.std.proofs.lemmas.Bool.Decides.{nat_tests}
use Rattle.flat_model.specs.declared.journals.Item.{Item}
use Rattle.flat_model.specs.declared.journals.Item.TheVariants.{Ordered, Told, Took}
use Rattle.flat_model.specs.declared.journals.Order.{Order}
use Rattle.flat_model.specs.declared.journals.Origin.TheVariants.{Control}
use Rattle.flat_model.specs.declared.orders.OrderRefusal.{OrderRefusal}
use Rattle.flat_model.specs.declared.refusals.Refused.{Refused}
use Rattle.flat_model.specs.declared.refusals.Refused.TheVariants.{Because, NoMemory}
use Rattle.flat_model.specs.Log.{party}
use Rattle.flat_model.specs.Registry.{Plugins, registry, is_hart, has_left, refusal}
use Rattle.baton_gate.proofs.LogLemmas.{goes_nowhere, goes_once, goes_same}
use Rattle.run_rules.specs.Guest.{Run, plugins}
use Rattle.run_rules.specs.Due.{wanted, next_line, start_orders, line_party}
use Rattle.run_rules.specs.Legal.{Legal}
use Rattle.run_order.specs.Sets.{Notice}
use Rattle.run_order.specs.InOrder.{Task, InHand, InOrder, task_run}
use Rattle.kept_order.proofs.Gone.{as_many}
use Rattle.kept_order.proofs.Leaves.{knows_harts}
use Rattle.kept_order.proofs.Unplanned.{wants_none}
use Rattle.host_state.specs.Closing.{IsClosing}
use Rattle.host_state.specs.Ordering.{IsOfRegistry, IsWithoutMemory}
use Rattle.host_state.specs.State.{StateValue, IsCaughtUp, stored_of}
use Rattle.run_controls.specs.Hands.{IsOnItsWay}
use Rattle.run_controls.specs.Parts.{IsPartOf, TakesUp}
use Rattle.run_controls.proofs.Handed.{done_legal}

-- What the party knows of the state.

open_wants : (short : Bool) (P : Type 0) → short ≡ false → (short ≡ true) ⊎ P → P
open_wants short P open_now (inl is) = absurd (false≢true (sym open_now ∙ is))
open_wants short P open_now (inr p) = p

-- nothing that the plan wants is missing, where no hart found too little memory
pub wants_nothing : (s : StateValue) → s.short ≡ false → IsCaughtUp s → wanted (task_run s.task) s.past ≡ None
wants_nothing s open_now caught_up = open_wants s.short (wanted (task_run s.task) s.past ≡ None) open_now caught_up

not_below : (m n : ℕ) → n ≤ m → nat_lt m n ≡ false
not_below m n le = grind (arith, nat_tests)

-- the party is no hart
pub is_no_hart : (s : StateValue) (who : ℕ) → InOrder s.task (stored_of s) → s.task.machine.harts ≤ who
    → is_hart s.registry.table who ≡ false
is_no_hart s who order far =
    not_below who s.registry.table.harts
    (omega (arith, far, ap (λ (r : Plugins). r.harts) order.plugins, as_many (task_run s.task) s.past))

beyond : (bs : List Bool) (k : ℕ) → length bs ≤ k → slice_index_or bs k false ≡ false
beyond [] k far = refl
beyond (b ∷ bs) zero far = absurd (omega (arith, far))
beyond (b ∷ bs) (suc k) far = beyond bs k (omega (arith, far))

-- so it hasn't left
never_left : (run : Run) (who : ℕ) (past : List Item) → run.harts ≤ who → has_left (plugins run past) who ≡ false
never_left run who past far = beyond (plugins run past).gone who (omega (arith, far, (knows_harts run past).gone))

-- One item of the party is added.

part_once : (who : ℕ) (old new : StateValue) (i : Item) → party i ≡ who → new.past ≡ i ∷ old.past → new.task ≡ old.task
    → wanted (task_run new.task) new.past ≡ None → IsPartOf who old new
part_once who old new i by past task none = record {
  adds = goes_same (λ i. party i ≡ who) old.past (i ∷ old.past) new.past (goes_once (λ i. party i ≡ who) old.past i by) (sym past);
  caught_up = inr none;
  task = task;
}

-- Orders.

module _ (who : ℕ) (order : Order) (old new : StateValue) where
  denied_past : (why : Refused OrderRefusal) → IsOfRegistry order old new why → IsWithoutMemory old new why → new.past ≡ old.past
  denied_past (Because why) is none = ap (λ (s : StateValue). s.past) is.1
  denied_past NoMemory is none = ap (λ (s : StateValue). s.past) none.rest

  pub order_part : (r : Result (Unit {0}) (Refused OrderRefusal))
      → OnOk r ((new.past ≡ Ordered (Control who) order ∷ old.past) × (refusal old.registry.table order ≡ None))
      → IfErr r (IsOfRegistry order old new) → IfErr r (IsWithoutMemory old new) → wanted (task_run new.task) new.past ≡ None
      → new.task ≡ old.task → IsPartOf who old new
  order_part (Ok u) is refused without none task = part_once who old new (Ordered (Control who) order) refl is.0 task none
  order_part (Err why) is refused without none task =
      let past = denied_past why refused without in
      record {
        adds = goes_same (λ i. party i ≡ who) old.past old.past new.past (goes_nowhere (λ i. party i ≡ who) old.past) (sym past);
        caught_up = inr none;
        task = task;
      }

-- Completions.

module _ (run : Run) (who plugin : ℕ) (past : List Item) where
  took_wants : wanted run (Took who plugin ∷ past) ≡ wanted run past
  unfolding wanted next_line start_orders line_party registry
  took_wants = refl

  told_wants : IsNonDecreasingBy (λ t. t.when) run.plan.script → wanted run past ≡ None → wanted run (Told who plugin ∷ past) ≡ None
  unfolding next_line start_orders
  told_wants rising none = wants_none run past (Told who plugin ∷ past) rising refl refl none

pub taken_part : (who plugin : ℕ) (old new : StateValue) → old.short ≡ false → IsCaughtUp old → new.past ≡ Took who plugin ∷ old.past
    → new.task ≡ old.task → IsPartOf who old new
taken_part who plugin old new open_now caught_up past task =
    let P : Task × List Item → Type 0 = λ y. wanted (task_run y.0) y.1 ≡ None in
    part_once who old new (Took who plugin) refl past task
    (subst P (λ i. (sym task i, sym past i)) (took_wants (task_run old.task) who plugin old.past ∙ wants_nothing old open_now caught_up))

pub told_part : (who plugin : ℕ) (old mid new : StateValue) → old.short ≡ false → IsCaughtUp old
    → IsNonDecreasingBy (λ t. t.when) old.task.plan.script → mid.past ≡ old.past → mid.task ≡ old.task
    → new.past ≡ Told who plugin ∷ mid.past → new.task ≡ mid.task → IsPartOf who old new
told_part who plugin old mid new open_now caught_up rising same_past same_task past task =
    let P : Task × List Item → Type 0 = λ y. wanted (task_run y.0) y.1 ≡ None in
    let now : new.past ≡ Told who plugin ∷ old.past = past ∙ ap (λ (xs : List Item). Told who plugin ∷ xs) same_past in
    let tasks : new.task ≡ old.task = task ∙ same_task in
    part_once who old new (Told who plugin) refl now tasks
    (subst P (λ i. (sym tasks i, sym now i))
    (told_wants (task_run old.task) who plugin old.past rising (wants_nothing old open_now caught_up)))

pub takes_up : (who : ℕ) (old new : StateValue) (c : InHand) (plugin : ℕ) (notices : List Notice) (next : Notice)
    → IsClosing who old new plugin notices next → c.plugin ≡ plugin → c.notices ≡ notices → c.back ≡ Some next → TakesUp who old new c
takes_up who old new c plugin notices next is number same back =
    let at : IsClosing who old new c.plugin notices next = subst (λ (n : ℕ). IsClosing who old new n notices next) (sym number) is in
    record {
      due = at.due;
      least = at.least;
      past = at.past;
      notices = same ∙ at.notices;
      back = back ∙ ap (λ (n : Notice). Some n) at.back;
    }

pub may_be_done : (who : ℕ) (s mid : StateValue) (c : InHand) (hand : Option InHand) → hand ≡ Some c → mid.task ≡ s.task
    → mid.past ≡ s.past → s.short ≡ false → IsCaughtUp s → s.task.machine.harts ≤ who → InOrder mid.task (stored_of mid)
    → MatchOption hand ⊥ (IsOnItsWay s.task who s.past) → Legal (task_run mid.task) (Told who c.plugin ∷ mid.past)
may_be_done who s mid c hand is task past open_now caught_up far order has =
    let P : Task × List Item → Type 0 = λ y. (IsOnItsWay y.0 who y.1 c) × (wanted (task_run y.0) y.1 ≡ None) in
    let here : IsOnItsWay s.task who s.past c = subst (λ (x : Option InHand). MatchOption x ⊥ (IsOnItsWay s.task who s.past)) is has in
    let both = subst P (λ i. (sym task i, sym past i)) (here, wants_nothing s open_now caught_up) in
    let few : mid.task.machine.harts ≤ who = subst (λ (t : Task). t.machine.harts ≤ who) (sym task) far in
    done_legal mid.task who mid.past c order.legal both.0 (never_left (task_run mid.task) who mid.past few) both.1
