-- A Turn that goes on with one more block, which the hart makes with what is shared.
use Rattle.std.proofs.Common.{◌≡◌, ◌+◌, ◌-◌, ◌<◌, ◌≤◌, ◌∙◌, ◌∷◌, ◌&&◌, ℕ, zero, suc, List, [], true, false, not, None}
use Rattle.std.proofs.Common.{sym, ap, subst, inl, inr, arith}
use Rattle.std.proofs.lemmas.Bool.{cases_order}
use Rattle.flat_model.specs.declared.events.Event.{Event}
use Rattle.flat_model.specs.declared.journals.Item.{Item}
use Rattle.flat_model.specs.declared.journals.Item.TheVariants.{Step}
use Rattle.flat_model.specs.Image.{Program}
use Rattle.flat_model.specs.Log.{steps}
use Rattle.flat_model.specs.Registry.{Plugins, registry, is_hart, has_left}
use Rattle.flat_model.specs.Step.{Stepped, starts_block, steps_of}
use Rattle.flat_model.specs.World.{Machine, HartState, Shared}
use Rattle.flat_model.specs.Worlds.{world, hart_of, IsRunOf}
use Rattle.flat_model.proofs.Worlds.{runs_alone}
use Rattle.shared_runs.specs.Runs.{AreSharedSteps, RunsOn}
use Rattle.rv_exec.specs.Sharing.{shared_of, machine_on}
use Rattle.run_rules.specs.Guest.{Run}
use Rattle.run_rules.specs.Laws.{MayTurn}
use Rattle.run_rules.specs.Legal.{Legal, may_step, runs, is_there}
use Rattle.run_rules.specs.Places.{place_of, takes_all}
use Rattle.run_rules.proofs.Turns.{first_true, rest_true, plugins_keep, turns_are_legal}
use Rattle.run_order.specs.InOrder.{task_run}
use Rattle.kept_order.specs.Lying.{GoesInside}
use Rattle.kept_order.proofs.Rows.{harts_run}
use Rattle.host_state.specs.MidTurns.{IsMidTurn}
use Rattle.host_state.specs.Moving.{IsRest}
use Rattle.host_state.specs.State.{StateValue, IsSound}
use Rattle.host_state.proofs.Commits.{of_run}
use Rattle.host_state.proofs.WholeTurns.{IsTurn, stepped, rest_inside}

-- The steps of a Turn, in two rows.

pub joined : (h k r : ℕ) (past : List Item) → steps h r (steps h k past) ≡ steps h (k + r) past
joined h k zero past = ap (λ (i : ℕ). steps h i past) (let e : k ≡ k + 0 = omega arith in e)
joined h k (suc r) past =
    ap (λ (xs : List Item). Step h ∷ xs) (joined h k r past)
    ∙ ap (λ (i : ℕ). steps h i past) (let e : suc (k + r) ≡ k + suc r = omega arith in e)

pub mid_again : (run : Run) (h k r : ℕ) (past : List Item) → IsMidTurn run h k past → IsMidTurn run h (k + r) (steps h r past)
mid_again run h k r past mid = record {
  before = mid.before;
  made = ap (steps h r) mid.made ∙ joined h k r mid.before;
  may = mid.may;
  taken = mid.taken;
}

-- steps move no set
places_keep : (run : Run) (h n : ℕ) (past : List Item) → takes_all run h past ≡ true → takes_all run h (steps h n past) ≡ true
unfolding place_of registry
places_keep run h zero past takes = takes
places_keep run h (suc n) past takes = places_keep run h n past takes

pub takes_still : (run : Run) (h k : ℕ) (past : List Item) → IsMidTurn run h k past → takes_all run h past ≡ true
takes_still run h k past mid =
    subst (λ (xs : List Item). takes_all run h xs ≡ true) (sym mid.made) (places_keep run h k mid.before mid.taken)

there_still : (run : Run) (h n : ℕ) (past : List Item) → is_there run h past ≡ true → is_there run h (steps h n past) ≡ true
there_still run h n past is = ap (λ (r : Plugins). is_hart r h && not (has_left r h)) (plugins_keep run h n past) ∙ is

pub there_yet : (run : Run) (h k : ℕ) (past : List Item) → IsMidTurn run h k past → is_there run h past ≡ true
there_yet run h k past mid =
    subst (λ (xs : List Item). is_there run h xs ≡ true) (sym mid.made) (there_still run h k mid.before mid.may.is_there)

-- the hart ran before each of the steps that it made
stepped_before : (run : Run) (h k j : ℕ) (past : List Item) → Legal run (steps h k past) → j < k → may_step run h (steps h j past) ≡ true
unfolding Legal
stepped_before run h zero j past legal below = absurd (omega (arith, below))
stepped_before run h (suc k) j past legal below =
    elim (cases_order j k) [
      | inl at ↦ subst (λ (i : ℕ). may_step run h (steps h i past) ≡ true) (sym at) legal.1
      | inr (inl less) ↦ stepped_before run h k j past legal.0 less
      | inr (inr more) ↦ absurd (omega (arith, more, below))
    ]

ran_before : (run : Run) (h k j : ℕ) (past : List Item) → Legal run (steps h k past) → j < k → runs run h (steps h j past) ≡ true
ran_before run h k j past legal below =
    let now = steps h j past in
    first_true (runs run h now) _ (rest_true (is_there run h now) _ (stepped_before run h k j past legal below))

-- and runs before each of the block's
runs_behind : (s : StateValue) (h i : ℕ) (old : HartState) → old ≡ hart_of s.task.machine s.task.mode s.past h
    → RunsOn (steps_of s.task.machine h i old (world s.task.machine s.task.mode s.past).shared)
    → runs (task_run s.task) h (steps h i s.past) ≡ true
runs_behind s h i old is on =
    let m = s.task.machine in
    let around = (world m s.task.mode s.past).shared in
    let alone : IsRunOf m s.task.mode h i s.past (steps_of m h i old around) =
    subst (λ (x : HartState). IsRunOf m s.task.mode h i s.past (steps_of m h i x around)) (sym is) (runs_alone m s.task.mode h i s.past) in
    harts_run s.task h (steps h i s.past) (ap (λ (x : HartState). x.parked) alone.hart ∙ on.awake)
    (ap (λ (x : HartState). x.ending) alone.hart ∙ on.running) (ap (λ (x : Shared). x.group) alone.shared ∙ on.going_on)

may_more : (s : StateValue) (h k r : ℕ) (old : HartState) → IsSound s → (mid : IsMidTurn (task_run s.task) h k s.past)
    → old ≡ hart_of s.task.machine s.task.mode s.past h
    → ((j : ℕ) → j < r → RunsOn (steps_of s.task.machine h j old (world s.task.machine s.task.mode s.past).shared))
    → MayTurn (task_run s.task) h (k + r) mid.before
may_more s h k r old sound mid is each =
    let run = task_run s.task in
    let legal : Legal run (steps h k mid.before) = subst (Legal run) mid.made sound.order.legal in
    let behind : (i : ℕ) → i < r → runs run h (steps h (k + i) mid.before) ≡ true = λ i below.
    subst (λ (xs : List Item). runs run h xs ≡ true) (ap (steps h i) mid.made ∙ joined h k i mid.before)
    (runs_behind s h i old is (each i below)) in
    record {
      legal = mid.may.legal;
      is_there = mid.may.is_there;
      owes_none = mid.may.owes_none;
      asks_nothing = mid.may.asks_nothing;
      passes_nothing_by = mid.may.passes_nothing_by;
      runs = λ j below. elim (cases_order j k) [
        | inl at ↦
            subst (λ (i : ℕ). runs run h (steps h i mid.before) ≡ true) (let e : k + 0 ≡ j = omega (arith, at) in e)
            (behind 0 (omega (arith, at, below)))
        | inr (inl less) ↦ ran_before run h k j mid.before legal less
        | inr (inr more) ↦
            subst (λ (i : ℕ). runs run h (steps h i mid.before) ≡ true)
            (let e : k + (j - k) ≡ j = omega (arith, more) in e) (behind (j - k) (omega (arith, more, below)))
      ];
    }

-- What the block makes of the hart and of what is shared.

turned_on : (s : StateValue) (h k r : ℕ) (old new : HartState) (left : Shared) (after : List Event)
    → IsSound s → k + r ≤ 512 → IsMidTurn (task_run s.task) h k s.past → old ≡ hart_of s.task.machine s.task.mode s.past h
    → IsRest s.task.machine h 0 r old new (world s.task.machine s.task.mode s.past).shared left [] after
    → IsTurn s h r old new left after
turned_on s h k r old new left after sound most mid is rest =
    let m = s.task.machine in
    let run = task_run s.task in
    let around = (world m s.task.mode s.past).shared in
    let all : steps_of m h r old around ≡ stepped new left after =
    rest.steps.steps ∙ ap (λ (es : List Event). stepped new left es) (sym rest.steps.appended) in
    let alone : IsRunOf m s.task.mode h r s.past (stepped new left after) =
    subst (IsRunOf m s.task.mode h r s.past) all
    (subst (λ (x : HartState). IsRunOf m s.task.mode h r s.past (steps_of m h r x around)) (sym is)
    (runs_alone m s.task.mode h r s.past)) in
    record {
      hart = alone.hart;
      shared = alone.shared;
      told = ap (λ (s : Stepped). s.events) all;
      inside = λ j below.
          subst (λ (i : ℕ). GoesInside i (steps_of m h j old around).hart) (let e : 0 + j ≡ j = omega arith in e)
          (rest_inside m h 0 r j old new around left [] after rest below);
      legal = subst (Legal run) (sym (joined h k r mid.before) ∙ ap (steps h r) (sym mid.made))
          (turns_are_legal run h (k + r) mid.before most (may_more s h k r old sound mid is rest.each));
    }

-- a run through a block from its start
from_start : (m : Machine) (h r : ℕ) (old new : HartState) (shared left : Shared) (after : List Event) → old.ending ≡ None
    → AreSharedSteps m h r old new shared left [] after
    → ((j : ℕ) → j < r → RunsOn (steps_of m h j old shared))
    → ((j : ℕ) → 0 < j → j < r → starts_block (steps_of m h j old shared).hart ≡ false)
    → IsRest m h 0 r old new shared left [] after
from_start m h r old new shared left after runs made each inside = record {
  steps = made;
  each = each;
  stays = λ some. record { running = runs; inside = λ none. absurd (omega (arith, none)) };
  inside = inside;
}

-- the same of the state as its fields give it
pub block_of : (s now : StateValue) → s ≡ now → IsSound s → (image : Program) (limit h k r : ℕ) (old new : HartState) (left : Shared)
    (before after : List Event)
    → image ≡ s.task.machine.image → limit ≡ s.task.machine.limit
    → IsMidTurn (task_run now.task) h k now.past → old ≡ hart_of now.task.machine now.task.mode now.past h → old.ending ≡ None
    → before ≡ [] → k + r ≤ 512
    → AreSharedSteps (machine_on image s.memory limit) h r old new (shared_of s.memory s.services) left before after
    → ((j : ℕ) → j < r → RunsOn (steps_of (machine_on image s.memory limit) h j old (shared_of s.memory s.services)))
    → ((j : ℕ) → 0 < j → j < r
    → starts_block (steps_of (machine_on image s.memory limit) h j old (shared_of s.memory s.services)).hart ≡ false)
    → IsTurn now h r old new left after
block_of s now view sound image limit h k r old new left before after same within mid is runs none most made each inside =
    let rest : IsRest (machine_on image s.memory limit) h 0 r old new (shared_of s.memory s.services) left [] after =
    from_start (machine_on image s.memory limit) h r old new (shared_of s.memory s.services) left after runs
    (subst (λ (es : List Event). AreSharedSteps (machine_on image s.memory limit) h r old new (shared_of s.memory s.services) left es after)
    none made) each inside in
    subst (λ (x : StateValue). IsTurn x h r old new left after) view
    (turned_on s h k r old new left after sound most
    (subst (λ (x : StateValue). IsMidTurn (task_run x.task) h k x.past) (sym view) mid)
    (subst (λ (x : StateValue). old ≡ hart_of x.task.machine x.task.mode x.past h) (sym view) is)
    (subst (λ (x : Shared). IsRest s.task.machine h 0 r old new x left [] after) sound.order.shared
    (subst (λ (x : Machine). IsRest x h 0 r old new (shared_of s.memory s.services) left [] after)
    (of_run s limit image sound same within) rest)))
