-- Harts that have left, while others step: one that has ended has its start, and no step changes it.
use Rattle.std.proofs.Common.{◌≡◌, ◌==◌, ◌&&◌, ◌||◌, ◌<◌, ◌∷◌, [], ◌∙◌, ℕ, zero, suc, Bool, true, false, not, List, Option, Some, None}
use Rattle.std.proofs.Common.{refl, sym, ap, subst, arith, inl, inr}
use Rattle.std.specs.Prelude.{if◌then◌else◌, is_some, slice_index_or, slice_set, replicate}
use Rattle.std.specs.List.{list_all, range_with_len}
use Rattle.std.proofs.lemmas.Bool.{cases_Bool, false≢true, lt-ltb, ltb-true, or_left}
use Rattle.std.proofs.lemmas.Bool.Decides.{nat_tests}
use Rattle.std.proofs.lemmas.List.{get_or-set_other}
use Rattle.flat_model.specs.declared.journals.Item.{Item}
use Rattle.flat_model.specs.declared.journals.Item.TheVariants.{Step, Ordered, GaveBack, Left, Told, Got, Took}
use Rattle.flat_model.specs.declared.journals.Mode.{Mode}
use Rattle.flat_model.specs.declared.journals.Order.TheVariants.{Install, Register, Reset, Uninstall}
use Rattle.flat_model.specs.Registry.{registry, is_hart, has_left}
use Rattle.flat_model.specs.Step.{Stepped, step_of, step, step_at, awoken}
use Rattle.flat_model.specs.World.{Machine, Start, HartState, Shared, opening_start, hart_by}
use Rattle.flat_model.specs.Worlds.{world, hart_of}
use Rattle.flat_model.specs.Image.{word_at}
use Rattle.run_rules.specs.Guest.{Run, plugins}
use Rattle.run_rules.specs.Legal.{Legal, is_there, may_step, runs, is_idle, is_finished}
use Rattle.run_rules.proofs.Harts.{step_keeps, harts_move_by_their_steps}
use Rattle.run_rules.proofs.Turns.{first_true, rest_true}
use Rattle.run_order.specs.InOrder.{Task, task_run}
use Rattle.kept_order.proofs.Ranges.{all_at}

-- a hart without a start is parked and hasn't ended
pub record IsUnstarted (hart : HartState) : Type 0 where
  pub parked : hart.parked ≡ true
  pub ending : hart.ending ≡ None

by_no_start : (m : Machine) (h : ℕ) (o : Option Start) → o ≡ None → IsUnstarted (hart_by m.image h m.harts o)
by_no_start m h None none = record { parked = refl; ending = refl }
by_no_start m h (Some start) none = absurd cc

-- a step of a parked hart changes nothing
pub stuck : (m : Machine) (h : ℕ) (hart : HartState) (shared : Shared) → hart.parked ≡ true
    → step_of m h hart shared ≡ record { hart = hart; shared = shared; events = [] }
unfolding step_of
stuck m h hart shared parked =
    ap (λ (b : Bool). if (b || is_some hart.ending) || is_some shared.group
    then (record { hart = hart; shared = shared; events = [] }) else step_at m h hart shared (word_at m.image hart.pc)) parked

stays_asleep : (k harts : ℕ) (before after : Option Start) (hart : HartState) → before ≡ None → after ≡ None
    → awoken k harts before after hart ≡ hart
stays_asleep k harts None None hart old new = refl
stays_asleep k harts None (Some start) hart old new = absurd cc
stays_asleep k harts (Some start) after hart old new = absurd cc

-- a start that isn't there after a step wasn't there before
none_before : (m : Machine) (k : ℕ) (hart : HartState) (shared : Shared) (h : ℕ) (o : Option Start) → shared.starts h ≡ o
    → (step_of m k hart shared).shared.starts h ≡ None → o ≡ None
none_before m k hart shared h None is none = refl
none_before m k hart shared h (Some start) is none =
    let has : (step_of m k hart shared).shared.starts h ≡ Some start = step_keeps m k hart shared h start is in
    absurd cc

unstarted_step : (m : Machine) (mode : Mode) (k h : ℕ) (past : List Item) → (world m mode past).shared.starts h ≡ None
    → (world m mode (Step k ∷ past)).shared.starts h ≡ None → IsUnstarted (hart_of m mode past h)
    → IsUnstarted (hart_of m mode (Step k ∷ past) h)
unfolding world step
unstarted_step m mode k h past old new is =
    let w = world m mode past in
    let s = step_of m k (w.harts k) w.shared in
    let other = awoken h m.harts (w.shared.starts h) (s.shared.starts h) (w.harts h) in
    let asleep : other ≡ w.harts h = stays_asleep h m.harts (w.shared.starts h) (s.shared.starts h) (w.harts h) old new in
    let same : (if h == k then s.hart else other) ≡ w.harts h =
    elim (cases_Bool (h == k)) [
      | inr off ↦ ap (λ (b : Bool). if b then s.hart else other) off ∙ asleep
      | inl own ↦
          let e : h ≡ k = grind (arith, nat_tests, own) in
          let parked : (w.harts k).parked ≡ true = ap (λ (j : ℕ). (w.harts j).parked) (sym e) ∙ is.parked in
          ap (λ (b : Bool). if b then s.hart else other) own
          ∙ ap (λ (x : Stepped). x.hart) (stuck m k (w.harts k) w.shared parked) ∙ ap w.harts (sym e)
    ] in
    subst IsUnstarted (sym same) is

pub unstarted : (m : Machine) (mode : Mode) (h : ℕ) (past : List Item) → h < m.harts
    → (world m mode past).shared.starts h ≡ None → IsUnstarted (hart_of m mode past h)
unfolding world step
unstarted m mode h [] low none =
    by_no_start m h (opening_start m.image mode h)
    (sym (ap (λ (b : Bool). if b then opening_start m.image mode h else None) (lt-ltb h m.harts low)) ∙ none)
unstarted m mode h (Step k ∷ past) low none =
    let w = world m mode past in
    let before : w.shared.starts h ≡ None = none_before m k (w.harts k) w.shared h (w.shared.starts h) refl none in
    unstarted_step m mode k h past before none (unstarted m mode h past low before)
unstarted m mode h (Ordered origin order ∷ past) low none = unstarted m mode h past low none
unstarted m mode h (GaveBack hart number ∷ past) low none = unstarted m mode h past low none
unstarted m mode h (Left hart ∷ past) low none = unstarted m mode h past low none
unstarted m mode h (Told party number ∷ past) low none = unstarted m mode h past low none
unstarted m mode h (Got hart number ∷ past) low none = unstarted m mode h past low none
unstarted m mode h (Took party number ∷ past) low none = unstarted m mode h past low none

-- a hart that has ended isn't changed by a step of another
ended_by_start : (m : Machine) (mode : Mode) (k j : ℕ) (past : List Item) (o : Option Start) → (world m mode past).shared.starts j ≡ o
    → j < m.harts → (k == j) ≡ false → is_some (hart_of m mode past j).ending ≡ true
    → hart_of m mode (Step k ∷ past) j ≡ hart_of m mode past j
ended_by_start m mode k j past (Some start) is low off ended =
    (harts_move_by_their_steps m mode j (Step k ∷ []) past start (off, tt) is).hart
ended_by_start m mode k j past None is low off ended =
    absurd (false≢true (sym (ap is_some (unstarted m mode j past low is).ending) ∙ ended))

pub ended_stays : (m : Machine) (mode : Mode) (k j : ℕ) (past : List Item)
    → j < m.harts → (k == j) ≡ false → is_some (hart_of m mode past j).ending ≡ true
    → hart_of m mode (Step k ∷ past) j ≡ hart_of m mode past j
ended_stays m mode k j past low off ended = ended_by_start m mode k j past ((world m mode past).shared.starts j) refl low off ended

-- a run has as many harts as its registry
pub as_many : (run : Run) (past : List Item) → (plugins run past).harts ≡ run.harts
unfolding registry
as_many run [] = refl
as_many run (Step hart ∷ past) = as_many run past
as_many run (Ordered origin (Install spec) ∷ past) = as_many run past
as_many run (Ordered origin (Register number spec) ∷ past) = as_many run past
as_many run (Ordered origin (Reset number) ∷ past) = as_many run past
as_many run (Ordered origin (Uninstall number) ∷ past) = as_many run past
as_many run (GaveBack hart number ∷ past) = as_many run past
as_many run (Left hart ∷ past) = as_many run past
as_many run (Told party number ∷ past) = as_many run past
as_many run (Got hart number ∷ past) = as_many run past
as_many run (Took party number ∷ past) = as_many run past

-- a hart that is there is a hart of the run
pub there_low : (run : Run) (h : ℕ) (past : List Item) → is_there run h past ≡ true → h < run.harts
there_low run h past there =
    subst (λ (n : ℕ). h < n) (as_many run past) (ltb-true h (plugins run past).harts (first_true (is_hart (plugins run past) h) _ there))

-- a hart that is finished has ended, where another hart may still step
ended_if : (ended over parked idle : Bool) → over ≡ false → idle ≡ false → (ended || (over || (parked && idle))) ≡ true → ended ≡ true
ended_if true over parked idle not_over not_idle is = refl
ended_if false true parked idle not_over not_idle is = absurd (false≢true (sym not_over))
ended_if false false true true not_over not_idle is = absurd (false≢true (sym not_idle))
ended_if false false true false not_over not_idle is = is
ended_if false false false idle not_over not_idle is = is

-- what is known of a hart that runs
pub record Runs (is_parked has_ended is_over : Bool) : Type 0 where
  pub parked : is_parked ≡ false
  pub ended : has_ended ≡ false
  pub over : is_over ≡ false

runs_so : (parked ended over : Bool) → (not parked && (not ended && not over)) ≡ true → Runs parked ended over
runs_so false false false is = record { parked = refl; ended = refl; over = refl }
runs_so true ended over is = absurd (false≢true is)
runs_so false true over is = absurd (false≢true is)
runs_so false false true is = absurd (false≢true is)

neither : (a b : Bool) → a ≡ false → b ≡ false → (a || b) ≡ false
neither false false one two = refl
neither true b one two = one
neither false true one two = two

finished_is_ended : (run : Run) (k j : ℕ) (past : List Item) → is_there run k past ≡ true → runs run k past ≡ true
    → is_finished run j past ≡ true → run.guest.has_ended past j ≡ true
finished_is_ended run k j past there is finished =
    let goes = runs_so (run.guest.is_parked past k) (run.guest.has_ended past k) (run.guest.is_over past) is in
    let all = list_all (is_idle run past) (range_with_len 0 run.harts) in
    let busy : all ≡ false =
    elim (cases_Bool all) [
      | inr no_more ↦ no_more
      | inl every ↦ absurd (false≢true (sym (neither (run.guest.is_parked past k) (run.guest.has_ended past k) goes.parked goes.ended)
          ∙ all_at (is_idle run past) 0 run.harts k every (omega arith) (omega (arith, there_low run k past there))))
    ] in
    ended_if (run.guest.has_ended past j) (run.guest.is_over past) (run.guest.is_parked past j) all goes.over busy finished

-- so a step changes no hart that is finished
abbrev Finished : Task → ℕ → List Item → Type 0
Finished t j past = is_finished (task_run t) j past ≡ true

finished_stays : (t : Task) (k j : ℕ) (past : List Item) → j < t.machine.harts → may_step (task_run t) k past ≡ true → Finished t j past
    → (is_some (hart_of t.machine t.mode past j).ending ≡ true)
    × (hart_of t.machine t.mode (Step k ∷ past) j ≡ hart_of t.machine t.mode past j)
finished_stays t k j past low may finished =
    let run = task_run t in
    let there : is_there run k past ≡ true = first_true _ _ may in
    let goes : runs run k past ≡ true = first_true _ _ (rest_true (is_there run k past) _ may) in
    let ended = finished_is_ended run k j past there goes finished in
    let awake = runs_so (run.guest.is_parked past k) (run.guest.has_ended past k) (run.guest.is_over past) goes in
    let off : (k == j) ≡ false =
    elim (cases_Bool (k == j)) [
      | inr off ↦ off
      | inl own ↦
          let e : k ≡ j = grind (arith, nat_tests, own) in
          absurd (false≢true (sym awake.ended ∙ ap (run.guest.has_ended past) e ∙ ended))
    ] in
    (ended, ended_stays t.machine t.mode k j past low off ended)

none_gone : (n h : ℕ) → slice_index_or (replicate n false) h false ≡ false
none_gone zero h = refl
none_gone (suc n) zero = refl
none_gone (suc n) (suc h) = none_gone n h

-- in a legal log a hart that has left is finished
pub left_is_finished : (t : Task) (j : ℕ) (past : List Item) → j < t.machine.harts → Legal (task_run t) past
    → has_left (plugins (task_run t) past) j ≡ true → Finished t j past
unfolding Legal registry world
left_is_finished t j [] low legal gone = absurd (false≢true (sym (none_gone t.machine.harts j) ∙ gone))
left_is_finished t j (Step k ∷ past) low legal gone =
    let kept = finished_stays t k j past low legal.1 (left_is_finished t j past low legal.0 gone) in
    or_left (is_some (hart_of t.machine t.mode (Step k ∷ past) j).ending) _
    (ap (λ (hart : HartState). is_some hart.ending) kept.1 ∙ kept.0)
left_is_finished t j (Ordered origin (Install spec) ∷ past) low legal gone = left_is_finished t j past low legal.0 gone
left_is_finished t j (Ordered origin (Register number spec) ∷ past) low legal gone = left_is_finished t j past low legal.0 gone
left_is_finished t j (Ordered origin (Reset number) ∷ past) low legal gone = left_is_finished t j past low legal.0 gone
left_is_finished t j (Ordered origin (Uninstall number) ∷ past) low legal gone = left_is_finished t j past low legal.0 gone
left_is_finished t j (GaveBack hart number ∷ past) low legal gone = left_is_finished t j past low legal.0 gone
left_is_finished t j (Left k ∷ past) low legal gone =
    elim (cases_Bool (k == j)) [
      | inl own ↦
          let e : k ≡ j = grind (arith, nat_tests, own) in
          let finished : is_finished (task_run t) k past ≡ true = first_true _ _ (rest_true (is_there (task_run t) k past) _ legal.1) in
          subst (λ (n : ℕ). is_finished (task_run t) n past ≡ true) e finished
      | inr off ↦
          let r = plugins (task_run t) past in
          let other : slice_index_or (slice_set r.gone k true) j false ≡ has_left r j =
          get_or-set_other r.gone k j true false (λ e. grind (arith, nat_tests, off, e)) in
          left_is_finished t j past low legal.0 (sym other ∙ gone)
    ]
left_is_finished t j (Told party number ∷ past) low legal gone = left_is_finished t j past low legal.0 gone
left_is_finished t j (Got hart number ∷ past) low legal gone = left_is_finished t j past low legal.0 gone
left_is_finished t j (Took party number ∷ past) low legal gone = left_is_finished t j past low legal.0 gone

-- a step changes no hart that has left
pub left_stays : (t : Task) (k j : ℕ) (past : List Item) → j < t.machine.harts → Legal (task_run t) (Step k ∷ past)
    → has_left (plugins (task_run t) past) j ≡ true → hart_of t.machine t.mode (Step k ∷ past) j ≡ hart_of t.machine t.mode past j
unfolding Legal
left_stays t k j past low legal gone = (finished_stays t k j past low legal.1 (left_is_finished t j past low legal.0 gone)).1
