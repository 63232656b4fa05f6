-- Harts that leave, and those that may not.
use Rattle.std.proofs.Common.{◌≡◌, ◌==◌, ◌&&◌, ◌||◌, ◌+◌, ◌-◌, ◌<◌, ◌++◌, ◌∷◌, [], ◌∙◌, ℕ, Bool, true, false, not, List, Option, Some, None}
use Rattle.std.proofs.Common.{refl, sym, ap, subst, arith, length, nat_lt}
use Rattle.std.specs.Prelude.{is_some, unwrap_or, slice_index_or, slice_set, if◌then◌else◌}
use Rattle.std.specs.List.{list_all, range_with_len}
use Rattle.std.proofs.lemmas.Bool.{false≢true, lt-ltb}
use Rattle.std.proofs.lemmas.List.{get_or-set_same}
use Rattle.std.proofs.lemmas.List.FromFn.{get_or-map-range_with_len}
use Rattle.flat_model.specs.declared.journals.Entry.TheVariants as entries
use Rattle.flat_model.specs.declared.journals.Item.{Item}
use Rattle.flat_model.specs.declared.journals.Item.TheVariants.{Left}
use Rattle.flat_model.specs.Image.{Program}
use Rattle.flat_model.specs.Log.{journaled}
use Rattle.flat_model.specs.Registry.{Plugins, Plugin, registry, has_left, is_closing}
use Rattle.flat_model.specs.World.{HartState, Shared}
use Rattle.flat_model.specs.Worlds.{world, hart_of}
use Rattle.run_rules.specs.Guest.{Run, plugins}
use Rattle.run_rules.specs.Due.{wanted}
use Rattle.run_rules.specs.Legal.{Legal, is_there, is_idle, is_finished, may_leave, owes_any, asks_nothing}
use Rattle.run_rules.specs.Places.{taker}
use Rattle.run_rules.proofs.Fitting.{left_at}
use Rattle.run_order.specs.Sets.{is_closing_out}
use Rattle.run_order.specs.InOrder.{Task, InOrder, task_run, hart_kept}
use Rattle.kept_order.proofs.Gone.{as_many}
use Rattle.kept_order.proofs.Leaves.{knows_harts}
use Rattle.host_state.specs.State.{StateValue, stored_of}
use Rattle.replay_order.proofs.Entries.{broken_rules_break_journals}
use Rattle.run_replay.specs.declared.berths.Berth.{Berth}
use Rattle.run_replay.specs.declared.replays.Followed.TheVariants.{Went}
use Rattle.run_replay.specs.Following.{IsPlaced, IsFollowing, IsFollowed, IsNext, IsBreaking}
use Rattle.run_replay.proofs.Going.{GoesBy, goes_on, next_alone, none_behind_leave}

-- A hart that has left is kept as it is.

kept_is : (gone : Bool) (x hart : HartState) → Some x ≡ (if gone then Some hart else None) → x ≡ hart
kept_is true x hart is = ap (λ (o : Option HartState). unwrap_or o x) is
kept_is false x hart is = absurd cc

none_kept : (gone : Bool) (hart : HartState) → None ≡ (if gone then Some hart else None) → gone ≡ false
none_kept true hart is = absurd cc
none_kept false hart is = refl

kept_at : (s : StateValue) (h : ℕ) → InOrder s.task (stored_of s) → h < s.task.machine.harts
    → slice_index_or s.harts h None ≡ hart_kept s.task s.past h
kept_at s h order low =
    ap (λ (xs : List (Option HartState)). slice_index_or xs h None) order.harts
    ∙ get_or-map-range_with_len (hart_kept s.task s.past) 0 s.task.machine.harts h h None low (omega arith)

pub left_idles : (s : StateValue) (h : ℕ) (hart : HartState) → InOrder s.task (stored_of s) → h < s.task.machine.harts
    → Some hart ≡ slice_index_or s.harts h None → (hart.parked || is_some hart.ending) ≡ is_idle (task_run s.task) s.past h
left_idles s h hart order low is =
    ap (λ (x : HartState). x.parked || is_some x.ending)
    (kept_is (has_left (plugins (task_run s.task) s.past) h) hart (hart_of s.task.machine s.task.mode s.past h) (is ∙ kept_at s h order
    low))

pub now_idles : (s : StateValue) (h : ℕ) (hart : HartState) → hart ≡ hart_of s.task.machine s.task.mode s.past h
    → (hart.parked || is_some hart.ending) ≡ is_idle (task_run s.task) s.past h
now_idles s h hart is = ap (λ (x : HartState). x.parked || is_some x.ending) is

-- a hart of the run that hasn't left is there
pub nobody : (s : StateValue) (h : ℕ) → InOrder s.task (stored_of s) → h < s.task.machine.harts → None ≡ slice_index_or s.harts h None
    → is_there (task_run s.task) h s.past ≡ false → ⊥
nobody s h order low none off =
    let r = plugins (task_run s.task) s.past in
    let stays : has_left r h ≡ false = none_kept (has_left r h) (hart_of s.task.machine s.task.mode s.past h) (none ∙ kept_at s h order
    low) in
    let here : nat_lt h r.harts ≡ true =
    ap (λ (n : ℕ). nat_lt h n) (as_many (task_run s.task) s.past) ∙ lt-ltb h s.task.machine.harts low in
    let there : is_there (task_run s.task) h s.past ≡ true =
    ap (λ (b : Bool). b && not (has_left r h)) here ∙ ap not stays in
    false≢true (sym off ∙ there)

-- The rule of Leaves.

abbrev all_idle : StateValue → Bool
all_idle s = list_all (is_idle (task_run s.task) s.past) (range_with_len 0 s.task.machine.harts)

fin_by : (s : StateValue) (h : ℕ) (hart : HartState) → InOrder s.task (stored_of s)
    → hart ≡ hart_of s.task.machine s.task.mode s.past h
    → (is_some hart.ending || (is_some s.services.group || (hart.parked && all_idle s))) ≡ is_finished (task_run s.task) h s.past
fin_by s h hart order is =
    ap (λ (x : HartState). is_some x.ending || (is_some s.services.group || (x.parked && all_idle s))) is
    ∙ ap (λ (w : Shared). is_some (hart_of s.task.machine s.task.mode s.past h).ending
    || (is_some w.group || ((hart_of s.task.machine s.task.mode s.past h).parked && all_idle s))) order.shared

one : (e x : Bool) → e ≡ true → true ≡ (e || x)
one e x is = sym (ap (λ (b : Bool). b || x) is)

two : (e g x : Bool) → g ≡ true → true ≡ (e || (g || x))
two true g x is = refl
two false g x is = one g x is

three : (e g p a : Bool) → e ≡ false → g ≡ false → p ≡ false → false ≡ (e || (g || (p && a)))
three e g p a none going awake =
    sym (ap (λ (b : Bool). b || (g || (p && a))) none ∙ ap (λ (b : Bool). b || (p && a)) going ∙ ap (λ (b : Bool). b && a) awake)

four : (e g p a : Bool) → e ≡ false → g ≡ false → p ≡ true → a ≡ (e || (g || (p && a)))
four e g p a none going asleep =
    sym (ap (λ (b : Bool). b || (g || (p && a))) none ∙ ap (λ (b : Bool). b || (p && a)) going ∙ ap (λ (b : Bool). b && a) asleep)

module _ (s : StateValue) (h : ℕ) (hart : HartState) (order : InOrder s.task (stored_of s))
    (is : hart ≡ hart_of s.task.machine s.task.mode s.past h) where
  pub ended_finishes : is_some hart.ending ≡ true → true ≡ is_finished (task_run s.task) h s.past
  ended_finishes e = one (is_some hart.ending) (is_some s.services.group || (hart.parked && all_idle s)) e ∙ fin_by s h hart order is

  pub over_finishes : is_some s.services.group ≡ true → true ≡ is_finished (task_run s.task) h s.past
  over_finishes g = two (is_some hart.ending) (is_some s.services.group) (hart.parked && all_idle s) g ∙ fin_by s h hart order is

  pub awake_stays : is_some hart.ending ≡ false → is_some s.services.group ≡ false → hart.parked ≡ false
      → false ≡ is_finished (task_run s.task) h s.past
  awake_stays e g p =
      three (is_some hart.ending) (is_some s.services.group) hart.parked (all_idle s) e g p ∙ fin_by s h hart order is

  pub asleep_by_all : is_some hart.ending ≡ false → is_some s.services.group ≡ false → hart.parked ≡ true
      → list_all (is_idle (task_run s.task) s.past) (range_with_len 0 s.task.machine.harts) ≡ is_finished (task_run s.task) h s.past
  asleep_by_all e g p =
      four (is_some hart.ending) (is_some s.services.group) hart.parked (all_idle s) e g p ∙ fin_by s h hart order is

and_false : (b : Bool) → (b && false) ≡ false
and_false true = refl
and_false false = refl

and_true : (b : Bool) → (b && true) ≡ b
and_true true = refl
and_true false = refl

leave_rule : (run : Run) (h : ℕ) (past : List Item) → is_there run h past ≡ true → wanted run past ≡ None
    → may_leave run h past ≡ (is_finished run h past && (not (owes_any run h past) && asks_nothing run h past))
leave_rule run h past there none =
    ap (λ (b : Bool). b && (is_finished run h past && (not (owes_any run h past) && (asks_nothing run h past && not (is_some (wanted
    run past))))))
    there
    ∙ ap (λ (o : Option Item). is_finished run h past && (not (owes_any run h past) && (asks_nothing run h past && not (is_some o)))) none
    ∙ ap (λ (b : Bool). is_finished run h past && (not (owes_any run h past) && b)) (and_true (asks_nothing run h past))

pub owing_stays : (run : Run) (h : ℕ) (past : List Item) → is_there run h past ≡ true → wanted run past ≡ None → owes_any run h past ≡ true
    → false ≡ may_leave run h past
owing_stays run h past there none owes =
    sym (leave_rule run h past there none ∙ ap (λ (b : Bool). is_finished run h past && (not b && asks_nothing run h past)) owes
    ∙ and_false (is_finished run h past))

pub asking_stays : (run : Run) (h : ℕ) (past : List Item) → is_there run h past ≡ true → wanted run past ≡ None
    → asks_nothing run h past ≡ false → false ≡ may_leave run h past
asking_stays run h past there none asks =
    sym (leave_rule run h past there none ∙ ap (λ (b : Bool). is_finished run h past && (not (owes_any run h past) && b)) asks
    ∙ ap (λ (b : Bool). is_finished run h past && b) (and_false (not (owes_any run h past))) ∙ and_false (is_finished run h past))

pub leaves_finished : (run : Run) (h : ℕ) (past : List Item) → is_there run h past ≡ true → wanted run past ≡ None
    → owes_any run h past ≡ false → asks_nothing run h past ≡ true → is_finished run h past ≡ may_leave run h past
leaves_finished run h past there none owes asks =
    sym (leave_rule run h past there none ∙ ap (λ (b : Bool). is_finished run h past && (not b && asks_nothing run h past)) owes
    ∙ ap (λ (b : Bool). is_finished run h past && b) asks ∙ and_true (is_finished run h past))

pub both : (run : Run) (h : ℕ) (past : List Item) → Legal run past → may_leave run h past ≡ true → Legal run (Left h ∷ past)
unfolding Legal
both run h past legal may = (legal, may)

-- What breaks it.

pub leave_breaks : (s : StateValue) (h : ℕ) → may_leave (task_run s.task) h s.past ≡ false → IsBreaking (entries.Leave h) s
leave_breaks s h off legal =
    broken_rules_break_journals s.task.machine s.task.mode s.task.plan (Left h) s.past (journaled s.past) refl
    (λ rule. false≢true (sym off ∙ rule)) legal

pub leave_breaks_without : (s : StateValue) (h : ℕ) → is_there (task_run s.task) h s.past ≡ false → IsBreaking (entries.Leave h) s
leave_breaks_without s h off =
    let run = task_run s.task in
    leave_breaks s h (ap (λ (b : Bool). b && (is_finished run h s.past && (not (owes_any run h s.past) && (asks_nothing run h s.past
    && not (is_some (wanted run s.past)))))) off)

-- And what a Leave makes of a replay.

gone_then : (run : Run) (h : ℕ) (past : List Item) → h < run.harts → is_there run h (Left h ∷ past) ≡ false
unfolding registry
gone_then run h past low =
    let r = plugins run past in
    let below : h < length r.gone = omega (arith, low, (knows_harts run past).gone) in
    ap (λ (b : Bool). nat_lt h r.harts && not b) (get_or-set_same r.gone h true false below) ∙ and_false (nat_lt h r.harts)

same_out : (run : Run) (h p : ℕ) (past : List Item) → is_closing_out run p (Left h ∷ past) ≡ is_closing_out run p past
unfolding registry taker
same_out run h p past =
    ap (λ (q : Plugin). is_closing q.state && is_some (taker p past)) (left_at h (plugins run past).plugins (p - 1))

pub leave_follows : {W : Type 0} (h : ℕ) (old new : StateValue) (berths : List (Option (Berth W))) (blocks : Option Program)
    → h < old.task.machine.harts → IsFollowing old berths blocks → InOrder new.task (stored_of new) → new.task ≡ old.task
    → new.short ≡ false → new.past ≡ Left h ∷ old.past
    → IsFollowed Went (entries.Leave h) old new (slice_set berths h None) blocks
leave_follows h old new berths blocks low following order task open_now past =
    let goes : GoesBy (Left h ∷ []) old new = record { task = task; open_now = open_now; past = past; order = order } in
    let next : IsNext (entries.Leave h) old new = next_alone (entries.Leave h) old new task (ap journaled past) in (
      next,
      goes_on h (Left h ∷ []) old new berths None blocks blocks following goes
          (none_behind_leave (task_run old.task) old.past following.rising following.caught_up h) (λ g off. (off, tt))
          (λ p. same_out (task_run old.task) h p old.past ∙ following.none_out p) following.serves
          (gone_then (task_run old.task) h old.past low),
    )
