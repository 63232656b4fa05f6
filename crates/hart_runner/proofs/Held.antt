-- What a hart's part of a hold leaves.
use Rattle.std.proofs.Common.{◌≡◌, ◌&&◌, ◌||◌, ◌+◌, ◌<◌, ◌≤◌, ◌%◌, ◌++◌, ◌∷◌, [], ◌∙◌, ℕ, zero, suc, Bool, true, false, not, List}
use Rattle.std.proofs.Common.{Option, Some, None, refl, sym, ap, subst, arith, inl, inr, length}
use Rattle.std.specs.Prelude.{ℤ, is_some, IsSome, replicate, All}
use Rattle.std.specs.List.{list_all, range_with_len}
use Rattle.std.specs.List.Sorted.{IsNonDecreasingBy}
use Rattle.std.specs.Cmp.Derive.{both_true}
use Rattle.std.proofs.lemmas.Bool.{cases_Bool, false≢true}
use Rattle.flat_model.specs.declared.events.Event.{Event}
use Rattle.flat_model.specs.declared.events.Ending.{Ending}
use Rattle.flat_model.specs.declared.plugins.Ask.{Ask}
use Rattle.flat_model.specs.declared.plugins.Ask.TheVariants.{Stay, Reset, Uninstall}
use Rattle.flat_model.specs.Asks.{stays}
use Rattle.flat_model.specs.declared.plugins.SetSpec.{SetSpec}
use Rattle.flat_model.specs.declared.journals.Item.{Item}
use Rattle.flat_model.specs.declared.journals.Item.TheVariants.{Step, Left}
use Rattle.flat_model.specs.Log.{party, steps, journaled, total_steps}
use Rattle.flat_model.specs.Registry.{plugin_of}
use Rattle.flat_model.specs.Step.{steps_of}
use Rattle.flat_model.specs.World.{HartState, Shared, World}
use Rattle.flat_model.specs.Worlds.{world, hart_of}
use Rattle.baton_gate.proofs.LogLemmas.{goes_nowhere, goes_once, goes_on, goes_same}
use Rattle.watcher_api.specs.Acting.{ask_of}
use Rattle.watcher_api.specs.Attachment.{Attachment}
use Rattle.run_rules.specs.Guest.{Run, plugins}
use Rattle.run_rules.specs.Heard.{is_live, waiting}
use Rattle.run_rules.specs.Due.{start_orders, next_line, wanted}
use Rattle.run_rules.specs.Laws.{MayTurn}
use Rattle.run_rules.specs.Legal.{Legal, is_there, owes_any, asks_nothing, is_idle, is_finished, may_leave}
use Rattle.run_rules.specs.Places.{IsStateLog, is_with_hart}
use Rattle.run_rules.proofs.Turns.{rest_true}
use Rattle.run_order.specs.Sets.{sets_for}
use Rattle.run_order.specs.InOrder.{Task, InOrder, task_run}
use Rattle.kept_order.specs.Hearing.{specs_for}
use Rattle.kept_order.proofs.Asked.{waits_dead}
use Rattle.kept_order.proofs.Gone.{there_low}
use Rattle.kept_order.proofs.Ranges.{all_at}
use Rattle.kept_order.proofs.Rows.{turns_begin}
use Rattle.kept_order.proofs.Unplanned.{wants_none}
use Rattle.script_order.specs.Letting.{LetsBe}
use Rattle.host_state.specs.Scripting.{HasTurned}
use Rattle.host_state.specs.State.{StateValue, IsCaughtUp, stored_of}
use Rattle.hart_runner.specs.declared.holding.Hold.TheVariants.{Turned}
use Rattle.hart_runner.specs.declared.tapes.Piece.{Piece}
use Rattle.hart_runner.specs.Stretches.{GoesOnBy, HasPlaced, IsCommitted, IsGoing, IsPiece, LieAt, events_of}
use Rattle.hart_runner.proofs.GoingOn.{whole_turn, hears_all, all_heard}
use Rattle.hart_runner.specs.Holds.{IsHold, MayLeave, IsHeld}
use Rattle.hart_runner.specs.Seats.{IsSeated, HasEntered, Own}
use Rattle.hart_runner.proofs.Entered.{quiet_noted, live_within}
use Rattle.hart_runner.proofs.Logs.{never_less}

-- A hart that has entered.

-- the hart is as it was
pub entered_hart : (t : Task) (h : ℕ) (seen : List Item) (s : StateValue) (sets : List Attachment) (filters : List (ℕ × SetSpec))
    (hart : HartState) → HasEntered h seen s sets filters → s.task ≡ t → hart ≡ hart_of t.machine t.mode seen h
    → hart ≡ hart_of s.task.machine s.task.mode s.past h
entered_hart t h seen s sets filters hart entered task is =
    is ∙ ap (λ (x : Task). hart_of x.machine x.mode seen h) (sym task) ∙ ap (λ (w : World). w.harts h) (sym entered.world)

stay_is : (a : Ask) → stays a ≡ true → a ≡ Stay
stay_is Stay is = refl
stay_is Reset is = absurd (false≢true is)
stay_is Uninstall is = absurd (false≢true is)

-- nothing waits on it
quiet_at : (run : Run) (h : ℕ) (past : List Item) (noted : List Ask) → asks_nothing run h past ≡ true → noted ≡ replicate 8 Stay
    → (p : ℕ) → 1 ≤ p → p ≤ 8 → ask_of p noted ≡ waiting run p h past
quiet_at run h past noted quiet none p one most =
    quiet_noted noted p none
    ∙ sym (elim (cases_Bool (is_live (plugin_of (plugins run past) p).state)) [
      | inr dead ↦ waits_dead run p h past dead
      | inl live ↦
          stay_is (waiting run p h past)
          (all_at (λ k. stays (waiting run k h past)) 1 (length (plugins run past).plugins) p quiet one
          (omega (arith, live_within (plugins run past) p one live)))
    ])

pub seated : (h : ℕ) (seen : List Item) (s : StateValue) (sets : List Attachment) (filters : List (ℕ × SetSpec)) (hart : HartState)
    (noted : List Ask) → HasEntered h seen s sets filters → hart ≡ hart_of s.task.machine s.task.mode s.past h
    → (hart.ending ≡ None → hart.since ≡ 0) → (hart.ending ≡ None → hart.steps < s.task.machine.limit) → noted ≡ replicate 8 Stay
    → IsSeated s.task h s.past hart sets filters noted
seated h seen s sets filters hart noted entered is begins below none = record {
  there = entered.there;
  hart = is;
  attached = entered.sets;
  specs = entered.specs;
  asks = λ p one most live. quiet_at (task_run s.task) h s.past noted entered.asks_nothing none p one most;
  unasked = λ p one most off. quiet_at (task_run s.task) h s.past noted entered.asks_nothing none p one most;
  begins = begins;
  below = below;
  quiet = λ parked. none;
}

-- where its hart is finished it may leave
pub leaves_so : (h : ℕ) (seen : List Item) (s : StateValue) (sets : List Attachment) (filters : List (ℕ × SetSpec)) (hart : HartState)
    → HasEntered h seen s sets filters → InOrder s.task (stored_of s) → hart ≡ hart_of s.task.machine s.task.mode s.past h
    → is_finished (task_run s.task) h s.past ≡ true → MayLeave h s hart sets
unfolding Legal
leaves_so h seen s sets filters hart entered order is finished = record {
  open_now = entered.open_now;
  legal = (
    order.legal,
    both_true entered.there (both_true finished (both_true (ap not entered.owes_none)
        (both_true entered.asks_nothing (ap (λ (o : Option Item). not (is_some o)) entered.caught_up)))),
  );
  room = omega (arith, entered.room);
  is = is;
  attached = entered.sets;
}

pub finished_ended : (ended over parked all : Bool) → ended ≡ true → (ended || (over || (parked && all))) ≡ true
finished_ended true over parked all is = refl
finished_ended false over parked all is = absurd (false≢true is)

pub finished_over : (ended over parked all : Bool) → over ≡ true → (ended || (over || (parked && all))) ≡ true
finished_over true over parked all is = refl
finished_over false true parked all is = refl
finished_over false false parked all is = absurd (false≢true is)

-- What a hold adds.

pub entered_hold : (h : ℕ) (old new : StateValue) (sets : List Attachment) (filters : List (ℕ × SetSpec))
    → HasEntered h old.past new sets filters → new.task ≡ old.task → IsHold h old new
entered_hold h old new sets filters entered task = record {
  own = entered.own;
  few = omega (arith, entered.total);
  caught_up = inr entered.caught_up;
  task = task;
}

pub failed_hold : (h : ℕ) (old new : StateValue) → new.short ≡ true → new.past ≡ old.past → new.task ≡ old.task → IsHold h old new
failed_hold h old new short past task = record {
  own = goes_same (λ i. party i ≡ h) old.past old.past new.past (goes_nowhere (λ i. party i ≡ h) old.past) (sym past);
  few = omega (arith, ap total_steps past);
  caught_up = inl short;
  task = task;
}

-- Turns.

own_steps : (h n : ℕ) (past : List Item) → Own h past (steps h n past)
own_steps h zero past = goes_nowhere (λ i. party i ≡ h) past
own_steps h (suc n) past =
    goes_on (λ i. party i ≡ h) (λ i. party i ≡ h) (λ i. party i ≡ h) past (steps h n past) (Step h ∷ steps h n past)
    (own_steps h n past) (goes_once (λ i. party i ≡ h) (steps h n past) (Step h) refl) (λ i is. is) (λ i is. is)

more_steps : (h n : ℕ) (past : List Item) → total_steps (steps h n past) ≡ total_steps past + n
more_steps h zero past = omega arith
more_steps h (suc n) past = omega (arith, more_steps h n past)

more_written : (h n : ℕ) (past : List Item) → length (journaled (steps h n past)) ≡ length (journaled past) + n
more_written h zero past = omega arith
more_written h (suc n) past = omega (arith, more_written h n past)

pub turn_begins : (h : ℕ) (seen : List Item) (s : StateValue) (sets : List Attachment) (filters : List (ℕ × SetSpec))
    → HasEntered h seen s sets filters → InOrder s.task (stored_of s) → MayTurn (task_run s.task) h 0 s.past
turn_begins h seen s sets filters entered order =
    turns_begin (task_run s.task) h s.past order.legal entered.there entered.owes_none entered.asks_nothing
    (ap (λ (o : Option Item). not (is_some o)) entered.caught_up)

pub turned : (h n : ℕ) (seen : List Item) (old mid new : StateValue) (sets : List Attachment) (filters : List (ℕ × SetSpec)) (noted : List Ask)
    (before after : HartState) (told first : List Event) (pc : ℕ) (pieces : List Piece)
    → HasEntered h seen old sets filters → IsCommitted h n old mid before after told → HasPlaced h mid new
    → before ≡ hart_of old.task.machine old.task.mode old.past h → (0 < length sets → told ≡ first ++ events_of pieces)
    → pc % 4 ≡ 0 → LieAt old.task.machine.image pc first → All (IsPiece old.task.machine.image) pieces
    → IsHeld Turned h seen new after sets filters noted first pc pieces
turned h n seen old mid new sets filters noted before after told first pc pieces entered is placed same heard aligned lies each =
    let task : new.task ≡ old.task = placed.task ∙ is.task in
    let low : h < mid.task.machine.harts =
    subst (λ (t : Task). h < t.machine.harts) (sym is.task) (there_low (task_run old.task) h old.past entered.there) in
    let lets : LetsBe mid.task h mid.past new.past = placed.lets_be h low in (
      record {
        told = told;
        turn = record {
          before = old.past;
          n = n;
          some = is.some;
          legal = subst (λ (y : Task × List Item). Legal (task_run y.0) y.1) (λ i. (sym placed.task i, is.made i)) is.legal;
          state_log = subst (λ (y : Task × List Item). IsStateLog (task_run y.0) y.1) (λ i. (sym placed.task i, is.made i)) is.state_log;
          lets_be = subst (λ (y : Task × List Item). LetsBe y.0 h y.1 new.past) (λ i. (sym placed.task i, is.made i)) lets;
          there = ap (λ (t : Task). is_there (task_run t) h old.past) task ∙ entered.there;
          quiet = ap (λ (t : Task). asks_nothing (task_run t) h old.past) task ∙ entered.asks_nothing;
          attached = entered.sets ∙ ap (λ (t : Task). sets_for is_with_hart (task_run t) h old.past) (sym task);
          specs = entered.specs ∙ ap (λ (t : Task). specs_for (task_run t) h old.past) (sym task);
          events = is.events
              ∙ ap (λ (x : HartState). (steps_of old.task.machine h n x (world old.task.machine old.task.mode old.past).shared).events) same
              ∙ ap (λ (t : Task). (steps_of t.machine h n (hart_of t.machine t.mode old.past h) (world t.machine t.mode old.past).shared).events)
              (sym task);
          is = is.is ∙ ap (λ (w : World). w.harts h) (sym lets.world)
              ∙ ap (λ (t : Task). hart_of t.machine t.mode new.past h) (sym placed.task);
          awake = is.awake;
          begins = is.leaves;
          below = λ goes. subst (λ (t : Task). after.steps < t.machine.limit) (sym task) (is.within_limit goes);
        };
        heard = heard;
        aligned = aligned;
        lies = subst (λ (t : Task). LieAt t.machine.image pc first) (sym task) lies;
        each = subst (λ (t : Task). All (IsPiece t.machine.image) pieces) (sym task) each;
      },
      omega (
        arith,
        never_less (λ i. party i ≡ h) seen old.past entered.own,
        never_less (λ i. party i ≡ h) mid.past new.past placed.own,
        more_written h n old.past,
        ap (λ (past : List Item). length (journaled past)) is.made,
        is.some,
      ),
    )

pub turned_hold : (h n : ℕ) (first old mid new : StateValue) (sets : List Attachment) (filters : List (ℕ × SetSpec))
    (before after : HartState) (told : List Event)
    → HasEntered h first.past old sets filters → IsCommitted h n old mid before after told → HasPlaced h mid new
    → old.task ≡ first.task → IsHold h first new
turned_hold h n first old mid new sets filters before after told entered is placed task = record {
  own = goes_on (λ i. party i ≡ h) (λ i. party i ≡ h) (λ i. party i ≡ h) first.past mid.past new.past
      (goes_on (λ i. party i ≡ h) (λ i. party i ≡ h) (λ i. party i ≡ h) first.past old.past mid.past entered.own
      (goes_same (λ i. party i ≡ h) old.past (steps h n old.past) mid.past (own_steps h n old.past) (sym is.made)) (λ i own. own)
      (λ i own. own))
      placed.own (λ i own. own) (λ i own. own);
  few = omega (arith, entered.total, more_steps h n old.past, ap total_steps is.made, is.most, placed.total);
  caught_up = placed.caught_up;
  task = placed.task ∙ is.task ∙ task;
}

-- the same of a Turn that went on with further blocks
pub turned_on : (h k n r : ℕ) (seen : List Item) (old mid made new : StateValue) (sets : List Attachment) (filters : List (ℕ × SetSpec))
    (noted : List Ask) (x y z : HartState) (first : List Event) (pc : ℕ) (has_sets : Bool) (p q : List Piece) → k ≡ h
    → HasEntered h seen old sets filters → x ≡ hart_of old.task.machine old.task.mode old.past h
    → IsCommitted h n old mid x y first → pc % 4 ≡ 0 → LieAt old.task.machine.image pc first
    → GoesOnBy mid.task k r mid.past made.past y z has_sets p q → made.task ≡ mid.task → InOrder made.task (stored_of made)
    → IsGoing made k z → n + r ≤ 512 → p ≡ [] → (0 < length sets → has_sets ≡ true) → HasPlaced k made new
    → IsHeld Turned h seen new z sets filters noted first pc q
turned_on h k n r seen old mid made new sets filters noted x y z first pc has_sets p q same entered is one aligned lies gone task order
    going most none some placed =
    let gone' : GoesOnBy mid.task h r mid.past made.past y z has_sets p q =
    subst (λ (i : ℕ). GoesOnBy mid.task i r mid.past made.past y z has_sets p q) same gone in
    let going' : IsGoing made h z = subst (λ (i : ℕ). IsGoing made i z) same going in
    turned h (n + r) seen old made new sets filters noted x z (first ++ gone'.told) first pc q entered
    (whole_turn h n r old mid made x y z first has_sets p q is one gone' task order going' most)
    (subst (λ (i : ℕ). HasPlaced i made new) same placed) is
    (λ has. hears_all mid.task h r mid.past made.past y z first has_sets p q gone' none (some has)) aligned lies
    (subst (λ (t : Task). All (IsPiece t.machine.image) q) one.task
    (all_heard mid.task h r mid.past made.past y z has_sets p q gone' none))

-- it is one behind which lines may be placed
pub may_place : (h k n r : ℕ) (seen : List Item) (old mid made : StateValue) (sets : List Attachment) (filters : List (ℕ × SetSpec))
    (x y z : HartState) (first : List Event) (has_sets : Bool) (p q : List Piece) → k ≡ h → HasEntered h seen old sets filters
    → x ≡ hart_of old.task.machine old.task.mode old.past h → IsCommitted h n old mid x y first
    → GoesOnBy mid.task k r mid.past made.past y z has_sets p q → made.task ≡ mid.task → InOrder made.task (stored_of made)
    → IsGoing made k z → n + r ≤ 512 → HasTurned (task_run made.task) k made.past
may_place h k n r seen old mid made sets filters x y z first has_sets p q same entered is one gone task order going most =
    let gone' : GoesOnBy mid.task h r mid.past made.past y z has_sets p q =
    subst (λ (i : ℕ). GoesOnBy mid.task i r mid.past made.past y z has_sets p q) same gone in
    let going' : IsGoing made h z = subst (λ (i : ℕ). IsGoing made i z) same going in
    let whole = whole_turn h n r old mid made x y z first has_sets p q is one gone' task order going' most in
    subst (λ (i : ℕ). HasTurned (task_run made.task) i made.past) (sym same)
    (record {
      before = old.past;
      made = n + r;
      is = whole.made;
      some = whole.some;
      most = whole.most;
      caught_up = ap (λ (t : Task). wanted (task_run t) old.past) (task ∙ one.task) ∙ entered.caught_up;
    })

pub turned_hold_on : (h k n r : ℕ) (first old mid made new : StateValue) (sets : List Attachment) (filters : List (ℕ × SetSpec))
    (x y z : HartState) (told : List Event) (has_sets : Bool) (p q : List Piece) → k ≡ h → HasEntered h first.past old sets filters
    → x ≡ hart_of old.task.machine old.task.mode old.past h → IsCommitted h n old mid x y told
    → GoesOnBy mid.task k r mid.past made.past y z has_sets p q → made.task ≡ mid.task → InOrder made.task (stored_of made)
    → IsGoing made k z → n + r ≤ 512 → old.task ≡ first.task → HasPlaced k made new → IsHold h first new
turned_hold_on h k n r first old mid made new sets filters x y z told has_sets p q same entered is one gone task order going most begun
    placed =
    let gone' : GoesOnBy mid.task h r mid.past made.past y z has_sets p q =
    subst (λ (i : ℕ). GoesOnBy mid.task i r mid.past made.past y z has_sets p q) same gone in
    let going' : IsGoing made h z = subst (λ (i : ℕ). IsGoing made i z) same going in
    turned_hold h (n + r) first old made new sets filters x z (told ++ gone'.told) entered
    (whole_turn h n r old mid made x y z told has_sets p q is one gone' task order going' most)
    (subst (λ (i : ℕ). HasPlaced i made new) same placed) begun

-- A hart that found no memory behind its entry.

pub stopped_hold : (h : ℕ) (first old new : StateValue) (sets : List Attachment) (filters : List (ℕ × SetSpec))
    → HasEntered h first.past old sets filters → old.task ≡ first.task → new.short ≡ true → new.past ≡ old.past → new.task ≡ old.task
    → IsHold h first new
stopped_hold h first old new sets filters entered task short past same = record {
  own = goes_same (λ i. party i ≡ h) first.past old.past new.past entered.own (sym past);
  few = omega (arith, entered.total, ap total_steps past);
  caught_up = inl short;
  task = same ∙ task;
}

-- A hart that makes no Turn.

none_ending : (o : Option Ending) → IsSome o → o ≡ None → ⊥
none_ending o some none = absurd (false≢true (ap is_some (sym none) ∙ some))

pub same_hart : (t : Task) (past : List Item) (h k : ℕ) (hart other : HartState) → k ≡ h → other ≡ hart
    → hart ≡ hart_of t.machine t.mode past h → other ≡ hart_of t.machine t.mode past k
same_hart t past h k hart other number same is = same ∙ is ∙ ap (hart_of t.machine t.mode past) (sym number)

-- one that has ended
pub ended_seated : (h : ℕ) (first new : StateValue) (sets : List Attachment) (filters : List (ℕ × SetSpec)) (hart : HartState)
    (noted : List Ask) → HasEntered h first.past new sets filters → new.task ≡ first.task
    → hart ≡ hart_of first.task.machine first.task.mode first.past h → IsSome hart.ending → noted ≡ replicate 8 Stay
    → IsSeated new.task h new.past hart sets filters noted
ended_seated h first new sets filters hart noted entered task is ended none =
    seated h first.past new sets filters hart noted entered (entered_hart first.task h first.past new sets filters hart entered task is)
    (λ goes. absurd (none_ending hart.ending ended goes)) (λ goes. absurd (none_ending hart.ending ended goes)) none

pub ended_leaves : (h : ℕ) (first new : StateValue) (sets : List Attachment) (filters : List (ℕ × SetSpec)) (hart : HartState)
    → HasEntered h first.past new sets filters → InOrder new.task (stored_of new) → new.task ≡ first.task
    → hart ≡ hart_of first.task.machine first.task.mode first.past h → IsSome hart.ending → MayLeave h new hart sets
ended_leaves h first new sets filters hart entered order task is ended =
    let here = entered_hart first.task h first.past new sets filters hart entered task is in
    let run = task_run new.task in
    leaves_so h first.past new sets filters hart entered order here
    (finished_ended (run.guest.has_ended new.past h) (run.guest.is_over new.past) (run.guest.is_parked new.past h)
    (list_all (is_idle run new.past) (range_with_len 0 run.harts)) (ap (λ (x : HartState). is_some x.ending) (sym here) ∙ ended))

-- one that runs, where the group has ended
pub running_seated : (h : ℕ) (first new : StateValue) (sets : List Attachment) (filters : List (ℕ × SetSpec)) (hart : HartState)
    (noted : List Ask) → HasEntered h first.past new sets filters → new.task ≡ first.task
    → hart ≡ hart_of first.task.machine first.task.mode first.past h → hart.since ≡ 0 → hart.steps < first.task.machine.limit
    → noted ≡ replicate 8 Stay → IsSeated new.task h new.past hart sets filters noted
running_seated h first new sets filters hart noted entered task is begins below none =
    seated h first.past new sets filters hart noted entered (entered_hart first.task h first.past new sets filters hart entered task is)
    (λ goes. begins) (λ goes. subst (λ (t : Task). hart.steps < t.machine.limit) (sym task) below) none

-- the group of a state in order has ended
group_over : (s : StateValue) (code : Option ℤ) → InOrder s.task (stored_of s) → code ≡ s.services.group → is_some code ≡ true
    → (task_run s.task).guest.is_over s.past ≡ true
group_over s code order is some =
    ap (λ (x : Shared). is_some x.group) (sym order.shared) ∙ ap (λ (o : Option ℤ). is_some o) (sym is) ∙ some

pub over_leaves : (h : ℕ) (first new : StateValue) (sets : List Attachment) (filters : List (ℕ × SetSpec)) (hart : HartState)
    (code : Option ℤ) → HasEntered h first.past new sets filters → InOrder new.task (stored_of new)
    → hart ≡ hart_of new.task.machine new.task.mode new.past h → code ≡ new.services.group → is_some code ≡ true
    → MayLeave h new hart sets
over_leaves h first new sets filters hart code entered order is group some =
    let run = task_run new.task in
    leaves_so h first.past new sets filters hart entered order is
    (finished_over (run.guest.has_ended new.past h) (run.guest.is_over new.past) (run.guest.is_parked new.past h)
    (list_all (is_idle run new.past) (range_with_len 0 run.harts)) (group_over new code order group some))

-- A hart that was parked as the hold began.

pub parked_seated : (h : ℕ) (first new : StateValue) (sets : List Attachment) (filters : List (ℕ × SetSpec)) (old hart : HartState)
    (noted : List Ask) (woken : Bool) → HasEntered h first.past new sets filters → new.task ≡ first.task
    → hart ≡ hart_of new.task.machine new.task.mode new.past h
    → (woken ≡ true → (hart.parked ≡ false) × (hart.since ≡ 0) × (hart.steps < new.task.machine.limit)) → (woken ≡ false → hart ≡ old)
    → (old.ending ≡ None → old.since ≡ 0) → (old.ending ≡ None → old.steps < first.task.machine.limit) → noted ≡ replicate 8 Stay
    → IsSeated new.task h new.past hart sets filters noted
parked_seated h first new sets filters old hart noted true entered task is woken asleep begins below none =
    seated h first.past new sets filters hart noted entered is (λ goes. (woken refl).1) (λ goes. (woken refl).2) none
parked_seated h first new sets filters old hart noted false entered task is woken asleep begins below none =
    let same : hart ≡ old = asleep refl in
    let Goes : HartState → Type 0 = λ x. (x.ending ≡ None → x.since ≡ 0) × (x.ending ≡ None → x.steps < new.task.machine.limit) in
    let goes : Goes hart =
    subst Goes (sym same) (begins, λ running. subst (λ (t : Task). old.steps < t.machine.limit) (sym task) (below running)) in
    seated h first.past new sets filters hart noted entered is goes.0 goes.1 none

pub deserted_leaves : (h : ℕ) (first new : StateValue) (sets : List Attachment) (filters : List (ℕ × SetSpec)) (hart : HartState)
    → HasEntered h first.past new sets filters → InOrder new.task (stored_of new)
    → hart ≡ hart_of new.task.machine new.task.mode new.past h → hart.parked ≡ true
    → ((k : ℕ) → k < new.task.machine.harts → (hart_of new.task.machine new.task.mode new.past k).parked ≡ true
    → is_finished (task_run new.task) k new.past ≡ true)
    → MayLeave h new hart sets
deserted_leaves h first new sets filters hart entered order is parked finished =
    leaves_so h first.past new sets filters hart entered order is
    (finished h (there_low (task_run new.task) h new.past entered.there) (ap (λ (x : HartState). x.parked) (sym is) ∙ parked))

-- A hart that leaves.

none_wanted : (o : Option Item) → not (is_some o) ≡ true → o ≡ None
none_wanted None is = refl
none_wanted (Some item) is = absurd (false≢true is)

leaves_caught_up : (run : Run) (h : ℕ) (past : List Item) → may_leave run h past ≡ true → wanted run past ≡ None
leaves_caught_up run h past may =
    let rest = rest_true (is_there run h past) _ may in
    let rest' = rest_true (is_finished run h past) _ rest in
    let rest'' = rest_true (not (owes_any run h past)) _ rest' in
    none_wanted (wanted run past) (rest_true (asks_nothing run h past) _ rest'')

pub left_caught_up : (h : ℕ) (old new : StateValue) (hart : HartState) (sets : List Attachment) → MayLeave h old hart sets
    → IsNonDecreasingBy (λ t. t.when) old.task.plan.script → new.past ≡ Left h ∷ old.past → new.task ≡ old.task → IsCaughtUp new
unfolding Legal start_orders next_line
left_caught_up h old new hart sets may rising past task =
    inr (ap (λ (t : Task). wanted (task_run t) new.past) task
    ∙ ap (λ (xs : List Item). wanted (task_run old.task) xs) past
    ∙ wants_none (task_run old.task) old.past (Left h ∷ old.past) rising refl refl
    (leaves_caught_up (task_run old.task) h old.past may.legal.1))

pub left_hold : (h k : ℕ) (old mid new : StateValue) → IsHold h old mid → k ≡ h → new.past ≡ Left k ∷ mid.past → IsCaughtUp new
    → new.task ≡ mid.task → IsHold h old new
left_hold h k old mid new hold same past caught_up task = record {
  own = goes_on (λ i. party i ≡ h) (λ i. party i ≡ h) (λ i. party i ≡ h) old.past mid.past new.past hold.own
      (goes_same (λ i. party i ≡ h) mid.past (Left k ∷ mid.past) new.past (goes_once (λ i. party i ≡ h) mid.past (Left k) same) (sym past))
      (λ i own. own) (λ i own. own);
  few = omega (arith, hold.few, ap total_steps past);
  caught_up = caught_up;
  task = task ∙ hold.task;
}
